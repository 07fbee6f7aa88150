-- What putting a write changes of the entries by revision.
use Rattle.std.specs.Prelude.{◌≡◌, ℕ, ◌==◌, ◌+◌, ◌≤◌, All, List, length, Some, if◌then◌else◌}
use Rattle.std.specs.Map.{lookup}
use Rattle.kv_model.specs.Acts.{Write}

-- the write is found at its revision, and at each other one what was
pub record HasPut (w : Write) (old new : List (ℕ × Write)) : Type 0 where
  pub found : (r : ℕ) → lookup (λ n. r == n) new ≡ (if w.revision == r then Some w else lookup (λ n. r == n) old)
  pub len : length new ≤ length old + 1
  pub revisions : (last : ℕ) → w.revision ≤ last → All (λ (e : ℕ × Write). e.0 ≤ last) old →
      All (λ (e : ℕ × Write). e.0 ≤ last) new
