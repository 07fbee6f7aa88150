use Rattle.std.proofs.Common.{drop}
use Rattle.serde.specs.Event.{Log}
use Rattle.serde_json.specs.Events.{SendsItems}
use Rattle.kv_script.specs.inside.Showing.{found_items}
use Rattle.kv_script.proofs.answering.history.send_entries.Given as goal

-- what sends the rest from here sends all from the start
abbrev pub invariant-loop-write : goal.invariant-loop-write
invariant-loop-write g l =
    (end : Log) → SendsItems (found_items l.history.form (drop l.write-index l.write-items)) (g.S.Serializer.written l.out) end
    → SendsItems (found_items l.history.form l.write-items) (g.S.Serializer.written l.initial.out) end
