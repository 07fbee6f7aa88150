use Rattle.std.proofs.Common.{◌-◌}
use Rattle.serde.specs.Event.{Log}
use Rattle.serde_json.specs.Events.{SendsItems}
use Rattle.kv_script.specs.inside.Showing.{listed_revisions}
use Rattle.kv_script.proofs.answering.batches.send_revisions.Given as goal

-- what sends the rest from here sends all from the start
abbrev pub invariant-loop-revision : goal.invariant-loop-revision
invariant-loop-revision g l =
    (end : Log) → SendsItems (listed_revisions l.revision l.last) (g.S.Serializer.written l.out) end
    → SendsItems (listed_revisions l.initial.revision l.last) (g.S.Serializer.written l.initial.out) end

abbrev pub decreases-loop-revision : goal.decreases-loop-revision
decreases-loop-revision g l = l.last - l.revision
