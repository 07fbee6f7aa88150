use Rattle.std.proofs.Common.{Some, subst}
use Rattle.std.proofs.lemmas.Result.{on_ok_weaker}
use Rattle.serde.specs.Event.{Logs, map_begins}
use Rattle.kv_script.proofs.answering.shown.ShownSerialize.serialize.Goals as goal

pub returns : goal.returns
returns g c =
    let first = g.S.Serializer.written c.begin_map.new.self in
    let begun = subst (λ n. Logs (g.S.Serializer.written c.args.out.now) first (map_begins (Some n))) c.count.ensures c.in_ok-begin_map.ensures in
    on_ok_weaker c.send_end.result (λ ended. (first, begun, c.in-Ok.ensures _ _ ended)) c.send_end.ensures
