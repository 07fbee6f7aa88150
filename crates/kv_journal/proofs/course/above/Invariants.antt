use Rattle.std.proofs.Common.{◌≡◌, ◌≤◌}
use Rattle.std.specs.Prelude.{nat_lt}
use Rattle.kv_journal.proofs.Arriving.{counted}
use Rattle.kv_journal.proofs.course.above.Given as goal

abbrev pub invariant-loop-write : goal.invariant-loop-write
invariant-loop-write l = (l.count ≡ counted (λ w. nat_lt l.floor w.revision) l.write-index l.writes) × (l.count ≤ l.write-index)
