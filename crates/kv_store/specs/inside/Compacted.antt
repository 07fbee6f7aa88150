-- What a compaction leaves of what is stored.
use Rattle.std.specs.Prelude.{◌≡◌, ℕ, ◌≤◌, Bool, false, ◌&&◌, ◌||◌, not, nat_lt, nat_le, ◌==◌, List, [], Option, Some, None, length, unwrap_or, if◌then◌else◌}
use Rattle.std.specs.List.{flat_map, list_any}
use Rattle.std.specs.Map.{keys_of, lookup}
use Rattle.std.specs.List.{IsDistinct}
use Rattle.std.specs.Option.{option_map_or}
use Rattle.std.specs.Str.{bytes_eq}
use Rattle.kv_model.specs.Acts.{Write, is_put}
use Rattle.kv_store.specs.Stored.{Stored, kept_at, last_at, write_at}

-- a key with this last write is cleared where that is a marker at or below the floor
abbrev pub clears : ℕ → Option Write → Bool
clears floor last = option_map_or (λ w. not (is_put w.op) && nat_le w.revision floor) last false

-- what stays of something that is stored of a key with this last write: nothing where the key is cleared
abbrev pub spared : {X : Type 0} → ℕ → Option Write → Option X → Option X
spared floor last stored = if clears floor last then None else stored

-- the revisions that entries keep of a key
abbrev pub kept_in : List ℕ → List (List ℕ × List ℕ) → List ℕ
kept_in key entries = unwrap_or (lookup (λ k. bytes_eq key k) entries) []

-- a write stays where it is above the floor, or its revision is among those that stay of its key
abbrev pub is_left : ℕ → List (List ℕ × List ℕ) → ℕ → Write → Bool
is_left floor entries revision w = nat_lt floor revision || list_any (λ r. r == revision) (kept_in w.key entries)

-- what stays of the write of a revision
abbrev pub left_of : ℕ → List (List ℕ × List ℕ) → ℕ → Option Write → Option Write
left_of floor entries revision None = None
left_of floor entries revision (Some w) = if is_left floor entries revision w then Some w else None

-- all revisions that entries keep
abbrev pub all_kept : List (List ℕ × List ℕ) → List ℕ
all_kept entries = flat_map (λ e. e.1) entries

-- the new version has this floor, what stays of the old one's revisions and writes, and counts the entries
pub record IsCompacted (to : ℕ) (old new : Stored) : Type 0 where
  pub config : new.config ≡ old.config
  pub last : new.last ≡ old.last
  pub kept : (key : List ℕ) → kept_at key new ≡ spared to (last_at key old) (kept_at key old)
  pub last_of : (key : List ℕ) → last_at key new ≡ spared to (last_at key old) (last_at key old)
  pub written : (revision : ℕ) → write_at revision new ≡ left_of to new.by_key revision (write_at revision old)
  pub apart : IsDistinct bytes_eq (keys_of new.by_key)
  pub values : length (all_kept new.by_key) ≤ old.values → new.values ≡ length (all_kept new.by_key)
  pub floor : new.floor ≡ to
  pub sealed : new.sealed ≡ old.sealed
