-- What a watch is given, as a function of the acts.
use Rattle.std.specs.Prelude.{ℕ, Bool, ◌&&◌, not, nat_lt, nat_le, List, [], ◌∷◌, ◌++◌, Option, Some, None, length, drop, filter, if◌then◌else◌}
use Rattle.std.specs.List.{filter_map, list_any}
use Rattle.kv_keys.specs.Matching.{any_matches}
use Rattle.kv_model.specs.declared.write.Op.{Op}
use Rattle.kv_model.specs.Acts.{Write, Act, writes_of, is_put}
use Rattle.kv_model.specs.Retained.{latest, retained}
use Rattle.kv_model.specs.declared.options.Start.{Start}
use Rattle.kv_model.specs.declared.options.Start.TheVariants.{Latest, History, Updates, From}
use Rattle.kv_model.specs.declared.options.Options.{Options}

-- an entry as a watch shows it: the size is that of the value, also where the value is not shown
pub record Entry : Type 0 where
  pub key : List ℕ
  pub op : Op
  pub revision : ℕ
  pub size : ℕ
  pub value : Option (List ℕ)

-- a watch is given entries, and the end marker
pub data Item : Type 0 where
  AnEntry : (entry : Entry) → Item
  EndMarker : Item

-- the writes whose keys match
abbrev pub matching : List (List ℕ) → List Write → List Write
matching filters ws = filter (λ w. any_matches filters w.key) ws

-- the initial writes: the latest ones, the retained ones, none, or the retained ones from a revision on
abbrev pub initial : ℕ → Start → List Act → List Write
initial h Latest acts = latest acts
initial h History acts = retained h acts
initial h Updates acts = []
initial h (From revision) acts = filter (λ w. nat_le revision w.revision) (retained h acts)

-- the entry of a write: a marker has no value, and headers only show none
abbrev pub entry_of : Bool → Write → Entry
entry_of headers_only w = record {
  key = w.key;
  op = w.op;
  revision = w.revision;
  size = length w.value;
  value = if is_put w.op && not headers_only then Some w.value else None;
}

-- how options show a write: as its entry, or not at all where they ignore deletes and it is a marker
abbrev pub shown : Options → Write → Option Item
shown options w = if options.ignore_deletes && not (is_put w.op) then None else
    Some (AnEntry (entry_of options.headers_only w))

abbrev pub all_shown : Options → List Write → List Item
all_shown options ws = filter_map (shown options) ws

-- the end marker comes after the initial entries, unless the start asks for updates alone
abbrev pub ending : Start → List Item
ending Latest = EndMarker ∷ []
ending History = EndMarker ∷ []
ending Updates = []
ending (From revision) = EndMarker ∷ []

-- what a watch is given that began after the acts `began`, once there are the acts `acts`: the shown initial entries,
-- the end marker, and the shown matching writes after those of its beginning
abbrev pub given : ℕ → List Act → List Act → List (List ℕ) → Options → List Item
given h began acts filters options =
    all_shown options (matching filters (initial h options.start began))
    ++ (ending options.start ++ all_shown options (matching filters (drop (length (writes_of began)) (writes_of acts))))

abbrev pub revision_of : Item → Option ℕ
revision_of (AnEntry entry) = Some entry.revision
revision_of EndMarker = None

-- the revisions of the entries among the items
abbrev pub item_revisions : List Item → List ℕ
item_revisions items = filter_map revision_of items

-- among items a live one at or below a floor: an entry behind the writes of the watch's beginning, as many as these
abbrev pub has_live_below : ℕ → ℕ → List Item → Bool
has_live_below beginning floor items = list_any (λ revision. nat_lt beginning revision && nat_le revision floor)
    (item_revisions items)

-- a watch that was handed so many items is behind a floor where a live item at or below the floor is still to be handed
-- out
abbrev pub is_behind : ℕ → ℕ → ℕ → List Act → List Act → List (List ℕ) → Options → Bool
is_behind floor handed h began acts filters options =
    has_live_below (length (writes_of began)) floor (drop handed (given h began acts filters options))
