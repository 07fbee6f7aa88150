use Rattle.std.proofs.Common.{◌≡◌, None, take}
use Rattle.kv_model.specs.State.{State}
use Rattle.kv_single.specs.Held.{Represents}
use Rattle.kv_single.specs.inside.Behind.{behind_at, least_from}
use Rattle.kv_single.proofs.Least.{numbers}
use Rattle.kv_single.proofs.bucket.Bucket.first_behind.Given as goal

abbrev pub invariant-loop-held : goal.invariant-loop-held
invariant-loop-held l =
    (l.held-items ≡ l.self.watches)
    × ((state : State) → Represents state l.self → l.first ≡ least_from (behind_at l.floor state) None (numbers (take l.held-index l.held-items)))
