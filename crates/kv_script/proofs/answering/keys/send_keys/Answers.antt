use Rattle.std.proofs.Common.{◌≡◌, [], drop, Some, sym, subst, arith}
use Rattle.std.proofs.lemmas.List.{drop_all}
use Rattle.std.proofs.lemmas.Result.{on_ok_weaker}
use Rattle.serde.specs.Event.{Logs, seq_begins}
use Rattle.serde_json.specs.Events.{SendsItems}
use Rattle.kv_script.specs.inside.Showing.{listed_keys}
use Rattle.kv_script.proofs.Counts.{keys_count}
use Rattle.kv_script.proofs.answering.keys.send_keys.Goals as goal

pub returns : goal.returns
returns g c =
    let written = g.S.Serializer.written in
    let keys = c.args.keys.now in
    let first = written c.begin_seq.new.self in
    let end = written c.end_seq.new.self in
    let begun = subst (λ n. Logs (written c.args.out.now) first (seq_begins (Some n))) (keys_count (λ key. key.now) keys) c.in_ok-begin_seq.ensures in
    let none : drop c.loop-key.key-index keys ≡ [] = drop_all c.loop-key.key-index keys (omega arith) in
    on_ok_weaker c.end_seq.result (λ ended. (
      first,
      begun,
      c.loop-key.invariant end (subst (λ rest. SendsItems (listed_keys rest) (written c.loop-key.out) end) (sym none) ended),
    )) c.end_seq.ensures
