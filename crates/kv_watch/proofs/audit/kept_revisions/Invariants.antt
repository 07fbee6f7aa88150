use Rattle.std.proofs.Common.{◌≡◌}
use Rattle.kv_watch.proofs.SlowSteps.{revisions_to}
use Rattle.kv_watch.proofs.audit.kept_revisions.Given as goal

abbrev pub invariant-loop-write : goal.invariant-loop-write
invariant-loop-write l = l.since_purge.items ≡ revisions_to l.key l.write-index l.writes
