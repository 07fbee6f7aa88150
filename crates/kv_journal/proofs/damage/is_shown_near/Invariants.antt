use Rattle.std.proofs.Common.{ℕ, ◌<◌, List}
use Rattle.kv_journal.specs.Damage.{IsOnDiskNear}
use Rattle.kv_journal.proofs.damage.is_shown_near.Given as goal

abbrev pub invariant-loop-n : goal.invariant-loop-n
invariant-loop-n l = (k : ℕ) → 0 < k → k < l.n → (payload rest : List ℕ) → IsOnDiskNear l.framing.seed l.at l.bytes k payload rest → ⊥
