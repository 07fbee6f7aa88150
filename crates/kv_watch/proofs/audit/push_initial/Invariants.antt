use Rattle.std.proofs.Common.{◌≡◌, ◌++◌}
use Rattle.kv_watch.proofs.SlowSteps.{begins_with, events_from}
use Rattle.kv_watch.proofs.audit.push_initial.Given as goal

abbrev pub invariant-loop-write : goal.invariant-loop-write
invariant-loop-write l =
    l.events.items ++ events_from (begins_with l.history l.filters l.options l.began) l.write-index l.began
    ≡ l.fn.events.items ++ events_from (begins_with l.history l.filters l.options l.began) 0 l.began
