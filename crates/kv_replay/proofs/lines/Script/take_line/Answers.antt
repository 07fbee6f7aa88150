use Rattle.std.proofs.Common.{◌≡◌, List, ℕ, [], ◌∙◌, ap, subst, sym}
use Rattle.std.proofs.lemmas.List.{nil_from_length}
use Rattle.std.proofs.lemmas.Result.{on_err_weaker, on_ok_weaker}
use Rattle.kv_replay.specs.Sessions.{Session, line_next}
use Rattle.kv_replay.specs.inside.Leaving.{LeavesLine}
use Rattle.kv_replay.specs.inside.Reading.{Reading}
use Rattle.kv_replay.proofs.TakingLines.{holds_within, no_items, within_whole}
use Rattle.kv_replay.proofs.lines.Script.take_line.Goals as goal

pub returns-clause-ok : goal.returns-clause-ok
returns-clause-ok g c =
    on_ok_weaker c.end_line.result (λ ends r holding. ends _ (holds_within r _ _ _ holding c.in_ok-take_part.ensures.line)) c.end_line.ensures.ok

pub returns-clause-write_fault : goal.returns-clause-write_fault
returns-clause-write_fault g c = λ fault.
    let stop = c.end_line.ensures.write_fault fault in
    (stop.0, λ r holding. stop.1 _ (holds_within r _ _ _ holding c.in_ok-take_part.ensures.line))

pub returns-clause-memory : goal.returns-clause-memory
returns-clause-memory g c = λ fault r holding. c.end_line.ensures.memory fault _ (holds_within r _ _ _ holding c.in_ok-take_part.ensures.line)

pub returns-clause-left : goal.returns-clause-left
returns-clause-left g c =
    on_err_weaker c.end_line.result (λ leaves r holding. leaves _ (holds_within r _ _ _ holding c.in_ok-take_part.ensures.line)) c.end_line.ensures.left

pub returns-then-rest-le-KEPT_BYTES-clause-left : goal.returns-then-rest-le-KEPT_BYTES-clause-left
returns-then-rest-le-KEPT_BYTES-clause-left g c =
    let none : c.args.self.now.line.items ≡ [] =
    nil_from_length c.args.self.now.line.items (no_items _ _ c.args.self.now.line.ok.0 (sym c.is_empty.ensures ∙ c.if-is_empty.true)) in
    on_err_weaker c.answer_whole.result (λ leaves r holding.
    let whole = within_whole r c.args.rest.now _ holding none c.if-rest-le-KEPT_BYTES.true in
    subst (λ (t : List ℕ). LeavesLine r.state.state.acts (line_next c.args.form r.state t).state.acts (g.T.Target.bucket c.answer_whole.new.self.session.target) (g.K.Output.held c.args.sink.now) c.args.out.now.items (g.K.Output.held c.answer_whole.new.sink) c.answer_whole.new.out.items)
    (sym (ap (λ (q : Reading Session). q.line) whole)) (leaves r.state holding.session)) c.answer_whole.ensures.left
