use Rattle.std.proofs.Common.{◌≡◌, [], drop, Some, sym, subst, arith, ◌∙◌}
use Rattle.std.proofs.lemmas.List.{drop_all}
use Rattle.std.proofs.lemmas.List.Sums.{length-filter}
use Rattle.std.proofs.lemmas.Result.{on_ok_weaker}
use Rattle.serde.specs.Event.{Logs, map_begins}
use Rattle.serde_json.specs.Events.{SendsMembers}
use Rattle.kv_script.specs.inside.Objects.{fields_of, is_there}
use Rattle.kv_script.proofs.Counts.{fields_count}
use Rattle.kv_script.proofs.answering.field.ObjectSerialize.serialize.Goals as goal

pub returns : goal.returns
returns g c =
    let written = g.S.Serializer.written in
    let fields = c.args.self.now.0.now in
    let first = written c.begin_map.new.self in
    let end = written c.end_map.new.self in
    let begun = subst (λ n. Logs (written c.args.out.now) first (map_begins (Some n))) (c.count.ensures ∙ sym (length-filter is_there fields) ∙ fields_count fields) c.in_ok-begin_map.ensures in
    let none : drop c.loop-field.field-index fields ≡ [] = drop_all c.loop-field.field-index fields (omega arith) in
    on_ok_weaker c.end_map.result (λ ended. (
      first,
      begun,
      c.loop-field.invariant end (subst (λ rest. SendsMembers (fields_of rest) (written c.loop-field.out) end) (sym none) ended),
    )) c.end_map.ensures
