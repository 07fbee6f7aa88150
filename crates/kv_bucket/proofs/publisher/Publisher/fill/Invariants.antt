use Rattle.std.proofs.Common.{◌≡◌, ◌-◌, ◌≤◌, [], length}
use Rattle.std.specs.Prelude.{All}
use Rattle.kv_bucket.proofs.publisher.Publisher.fill.Given as goal

abbrev pub invariant-loop-count : goal.invariant-loop-count
invariant-loop-count g l =
    (length l.readers.items ≤ l.count) × All (λ r. (r.seen ≡ []) × (r.told ≡ l.self)) l.readers.items

abbrev pub decreases-loop-count : goal.decreases-loop-count
decreases-loop-count g l = l.count - length l.readers.items
