use Rattle.std.proofs.Common.{drop}
use Rattle.serde.specs.Event.{Log}
use Rattle.serde_json.specs.Events.{SendsMembers}
use Rattle.kv_script.specs.inside.Objects.{fields_of}
use Rattle.kv_script.proofs.answering.field.ObjectSerialize.serialize.Given as goal

-- what sends the rest from here sends all from the start
abbrev pub invariant-loop-field : goal.invariant-loop-field
invariant-loop-field g l =
    (end : Log) → SendsMembers (fields_of (drop l.field-index l.field-items)) (g.S.Serializer.written l.out) end
    → SendsMembers (fields_of l.field-items) (g.S.Serializer.written l.initial.out) end
