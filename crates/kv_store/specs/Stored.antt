-- What a version stores.
use Rattle.std.specs.Prelude.{ℕ, Bool, List, Option, ◌==◌}
use Rattle.std.specs.Map.{lookup}
use Rattle.std.specs.Str.{bytes_eq}
use Rattle.kv_model.specs.Acts.{Write}
use Rattle.kv_model.specs.Configuration.{Configuration}

-- what is stored of a key: the revisions that are kept of it, and its last write
pub record KeyHistory : Type 0 where
  pub revisions : List ℕ
  pub last : Write

-- the entries of the two tries: of each key its kept revisions and its last write, of each revision its write
pub record Stored : Type 0 where
  pub config : Configuration
  pub by_key : List (List ℕ × List ℕ)
  pub last_by_key : List (List ℕ × Write)
  pub by_revision : List (ℕ × Write)
  pub last : ℕ
  pub values : ℕ
  pub floor : ℕ
  pub sealed : Bool

-- the revisions that are stored of a key
abbrev pub kept_at : List ℕ → Stored → Option (List ℕ)
kept_at key v = lookup (λ k. bytes_eq key k) v.by_key

-- the last write that is stored of a key
abbrev pub last_at : List ℕ → Stored → Option Write
last_at key v = lookup (λ k. bytes_eq key k) v.last_by_key

-- the write that is stored of a revision
abbrev pub write_at : ℕ → Stored → Option Write
write_at revision v = lookup (λ r. revision == r) v.by_revision
