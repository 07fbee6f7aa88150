-- What a client knows of a key, and how it goes on from where it was.
use Rattle.std.specs.Prelude.{ℕ, ◌+◌, Bool, false, List, [], ◌∷◌, Option, Some, None, option_map, if◌then◌else◌}
use Rattle.std.specs.Str.{bytes_eq}
use Rattle.kv_model.specs.Acts.{Act, is_put}
use Rattle.kv_model.specs.Given.{AnEntry, EndMarker, Entry, Item, entry_of}
use Rattle.kv_model.specs.Reads.{get_of}
use Rattle.kv_model.specs.declared.options.Options.{Options}
use Rattle.kv_model.specs.declared.options.Start.TheVariants.{From}

-- a put tells that its key has an entry, a marker that it has none
abbrev pub told_by : Entry → Option Entry
told_by entry = if is_put entry.op then Some entry else None

-- what is known of a key once more items were handed out: what its last entry among them tells, or what was known before
abbrev pub known_by : List ℕ → Option Entry → List Item → Option Entry
known_by key known [] = known
known_by key known (AnEntry entry ∷ items) = known_by key (if bytes_eq entry.key key then told_by entry else known) items
known_by key known (EndMarker ∷ items) = known_by key known items

-- what a get answers, as watches show it
abbrev pub entry_got : Bool → List ℕ → List Act → Option Entry
entry_got headers_only key acts = option_map (entry_of headers_only) (get_of key acts)

-- a watch from the next revision on that shows markers too
abbrev pub from_behind : ℕ → Bool → Options
from_behind revision headers_only = record {
  start = From (revision + 1);
  ignore_deletes = false;
  headers_only = headers_only;
}
