use Rattle.std.proofs.Common.{◌≤◌, ◌-◌, Some, sym, subst, ◌∙◌, arith}
use Rattle.std.proofs.lemmas.Result.{on_ok_weaker}
use Rattle.serde.specs.Event.{Logs, seq_begins}
use Rattle.serde_json.specs.Events.{SendsItems}
use Rattle.kv_script.proofs.Counts.{revisions_count, revisions_more, revisions_none}
use Rattle.kv_script.proofs.answering.batches.send_revisions.Goals as goal

pub loop-revision-preserved : goal.loop-revision-preserved
loop-revision-preserved g c = λ end rest.
    let written = g.S.Serializer.written in
    c.loop-revision.invariant end (subst (λ items. SendsItems items (written c.loop-revision.out) end)
    (sym (revisions_more c.loop-revision.revision c.args.revisions.now.last (omega (arith, c.loop-revision-test.true))))
    (written c.u64.new.self, c.in_ok-u64.ensures, rest))

pub returns : goal.returns
returns g c =
    let written = g.S.Serializer.written in
    let before = c.args.revisions.now.before in
    let last = c.args.revisions.now.last in
    let first = written c.begin_seq.new.self in
    let end = written c.end_seq.new.self in
    let begun = subst (λ n. Logs (written c.args.out.now) first (seq_begins (Some n))) (c.saturating_sub.ensures ∙ revisions_count before (last - before)) c.in_ok-begin_seq.ensures in
    let over : last ≤ c.loop-revision.revision = omega (arith, c.loop-revision-test.false) in
    on_ok_weaker c.end_seq.result (λ ended. (
      first,
      begun,
      c.loop-revision.invariant end (subst (λ items. SendsItems items (written c.loop-revision.out) end) (sym (revisions_none c.loop-revision.revision last over)) ended),
    )) c.end_seq.ensures
