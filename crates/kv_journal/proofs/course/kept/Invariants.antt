use Rattle.std.proofs.Common.{◌≡◌, ◌≤◌}
use Rattle.kv_journal.specs.inside.Contents.{writes_told}
use Rattle.kv_journal.specs.inside.Reachable.{is_kept_among}
use Rattle.kv_journal.proofs.Arriving.{counted}
use Rattle.kv_journal.proofs.course.kept.Given as goal

abbrev pub invariant-loop-write : goal.invariant-loop-write
invariant-loop-write l = (l.count ≡ counted (is_kept_among l.version.config.history (writes_told l.writes)) l.write-index l.writes) × (l.count ≤ l.write-index)
