use Rattle.std.proofs.Common.{◌≡◌, [], drop, Some, sym, subst, arith}
use Rattle.std.proofs.lemmas.List.{drop_all}
use Rattle.std.proofs.lemmas.Result.{on_ok_weaker}
use Rattle.serde.specs.Event.{Logs, seq_begins}
use Rattle.serde_json.specs.Events.{SendsItems}
use Rattle.kv_model.specs.State.{read_entry}
use Rattle.kv_script.specs.inside.Showing.{found_items}
use Rattle.kv_script.proofs.Counts.{entries_count}
use Rattle.kv_script.proofs.answering.history.send_entries.Goals as goal

pub returns : goal.returns
returns g c =
    let written = g.S.Serializer.written in
    let form = c.args.history.now.form in
    let writes = c.args.history.now.writes.now in
    let first = written c.begin_seq.new.self in
    let end = written c.end_seq.new.self in
    let begun = subst (λ n. Logs (written c.args.out.now) first (seq_begins (Some n))) (entries_count (λ w. read_entry w.now) form writes) c.in_ok-begin_seq.ensures in
    let none : drop c.loop-write.write-index writes ≡ [] = drop_all c.loop-write.write-index writes (omega arith) in
    on_ok_weaker c.end_seq.result (λ ended. (
      first,
      begun,
      c.loop-write.invariant end (subst (λ rest. SendsItems (found_items form rest) (written c.loop-write.out) end) (sym none) ended),
    )) c.end_seq.ensures
