-- What is true of every version, whatever it stands for: its numbers are small.
use Rattle.std.specs.Prelude.{ℕ, ◌<◌, ◌≤◌, ◌^◌, All, length}
use Rattle.kv_model.specs.Acts.{Write}
use Rattle.kv_store.specs.Stored.{Stored}

-- some entry of each key is kept, and no trie has more entries than there are revisions
pub record IsBounded (version : Stored) : Type 0 where
  pub some : 0 < version.config.history
  pub limit : version.config.revision_limit < 2 ^ 32
  pub last : version.last ≤ version.config.revision_limit
  pub values : version.values ≤ version.last
  pub keys : length version.by_key ≤ version.last
  pub writes : length version.by_revision ≤ version.last
  pub revisions : All (λ (e : ℕ × Write). e.0 ≤ version.last) version.by_revision
