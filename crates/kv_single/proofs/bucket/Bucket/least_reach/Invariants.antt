use Rattle.std.proofs.Common.{◌≡◌, ◌≤◌, ℕ, length, nat_lt, take}
use Rattle.std.specs.List.{list_any}
use Rattle.kv_model.specs.Acts.{writes_of}
use Rattle.kv_model.specs.State.{State}
use Rattle.kv_single.specs.Held.{Represents}
use Rattle.kv_single.specs.inside.Behind.{behind_at}
use Rattle.kv_single.proofs.Least.{numbers}
use Rattle.kv_single.proofs.bucket.Bucket.least_reach.Given as goal

abbrev pub invariant-loop-held : goal.invariant-loop-held
invariant-loop-held l =
    (l.held-items ≡ l.self.watches)
    × ((state : State) → Represents state l.self → l.reach ≤ length (writes_of state.acts))
    × ((state : State) → Represents state l.self → (floor : ℕ) → floor ≤ length (writes_of state.acts) → list_any (behind_at floor state) (numbers (take l.held-index l.held-items)) ≡ nat_lt l.reach floor)
