use Rattle.std.proofs.Common.{drop}
use Rattle.serde.specs.Event.{Log}
use Rattle.serde_json.specs.Events.{SendsItems}
use Rattle.kv_script.specs.inside.Showing.{listed_keys}
use Rattle.kv_script.proofs.answering.keys.send_keys.Given as goal

-- what sends the rest from here sends all from the start
abbrev pub invariant-loop-key : goal.invariant-loop-key
invariant-loop-key g l =
    (end : Log) → SendsItems (listed_keys (drop l.key-index l.keys)) (g.S.Serializer.written l.out) end
    → SendsItems (listed_keys l.keys) (g.S.Serializer.written l.initial.out) end
