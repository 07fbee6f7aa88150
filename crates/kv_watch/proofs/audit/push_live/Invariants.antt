use Rattle.std.proofs.Common.{◌≡◌, ◌++◌}
use Rattle.kv_model.specs.further.Showing.{is_shown}
use Rattle.kv_watch.proofs.SlowSteps.{events_from}
use Rattle.kv_watch.proofs.audit.push_live.Given as goal

abbrev pub invariant-loop-write : goal.invariant-loop-write
invariant-loop-write l = l.events.items ++ events_from (is_shown l.filters l.options) l.write-index l.writes ≡ l.fn.events.items ++ events_from (is_shown l.filters l.options) 0 l.writes
