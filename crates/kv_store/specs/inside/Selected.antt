-- Which revisions of a key a watch begins with.
use Rattle.std.specs.Prelude.{ℕ, Bool, nat_le, List, [], None, filter, map, if◌then◌else◌}
use Rattle.std.specs.List.{last_or}
use Rattle.std.specs.Map.{lookup}
use Rattle.std.specs.Option.{option_to_list, option_map_or}
use Rattle.std.specs.Str.{bytes_eq}
use Rattle.kv_model.specs.declared.options.Start.{Start}
use Rattle.kv_model.specs.declared.options.Start.TheVariants.{Latest, History, Updates, From}
use Rattle.kv_store.specs.Stored.{KeyHistory}
use Rattle.kv_store.specs.inside.Compacted.{kept_in}
use Rattle.kv_store.specs.inside.Fields.{kept_entries}

-- of the kept revisions of a key the last, all, none, or those from a revision on
abbrev pub initial_revisions : Start → List ℕ → List ℕ
initial_revisions Latest rs = option_to_list (last_or None rs)
initial_revisions History rs = rs
initial_revisions Updates rs = []
initial_revisions (From revision) rs = filter (λ r. nat_le revision r) rs

-- those of an entry whose key is asked for
abbrev pub initial_of : (List ℕ → Bool) → Start → List ℕ × KeyHistory → List ℕ
initial_of wants start entry = if wants entry.0 then initial_revisions start entry.1.revisions else []

-- those that entries keep of a key
abbrev pub initial_at : Start → List (List ℕ × KeyHistory) → List ℕ → List ℕ
initial_at start entries key = initial_revisions start (kept_in key (kept_entries entries))

-- what is stored of a key behind the last of its revisions that are kept, where one is
abbrev pub last_numbered : KeyHistory → List (ℕ × KeyHistory)
last_numbered kept = map (λ r. (r, kept)) (option_to_list (last_or None kept.revisions))

-- that of an entry whose key is asked for
abbrev pub last_of_entry : (List ℕ → Bool) → List ℕ × KeyHistory → List (ℕ × KeyHistory)
last_of_entry wants entry = if wants entry.0 then last_numbered entry.1 else []

-- that which entries have of a key
abbrev pub last_at_key : List (List ℕ × KeyHistory) → List ℕ → List (ℕ × KeyHistory)
last_at_key entries key = option_map_or last_numbered (lookup (λ k. bytes_eq key k) entries) []
