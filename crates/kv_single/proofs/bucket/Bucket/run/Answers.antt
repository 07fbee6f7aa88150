use Rattle.std.proofs.Common.{◌≡◌, ◌+◌, ◌≤◌, [], ◌∷◌, ◌++◌, length, take, sym, ap, ◌∙◌, subst, arith}
use Rattle.std.specs.Prelude.{List}
use Rattle.std.proofs.lemmas.List.{take_more, take_all}
use Rattle.kv_model.specs.declared.call.Call.{Call}
use Rattle.kv_single.specs.declared.reply.Reply.{Reply}
use Rattle.kv_single.specs.Held.{Bucketed}
use Rattle.kv_single.specs.Stepping.{IsRun}
use Rattle.kv_single.proofs.Running.{run_push, run_tells, tells_early}
use Rattle.kv_single.proofs.bucket.Bucket.run.Goals as goal

pub loop-call-preserved : goal.loop-call-preserved
loop-call-preserved c =
    let before = take c.loop-call.call-index c.args.calls.now in
    let call = c.call-item.result in
    let more : take (c.loop-call.call-index + 1) c.args.calls.now ≡ before ++ call ∷ [] =
    take_more c.args.calls.now c.loop-call.call-index call c.loop-call-test.true ∙ ap (λ (x : Call). before ++ x ∷ []) (sym c.call-item.is) in
    subst (λ (cs : List Call). IsRun c.args.self.now cs c.args.replies.now.items c.push_reserved.new.self.items c.answer.new.self) (sym more)
    (run_push c.args.self.now c.loop-call.self c.answer.new.self before call c.args.replies.now.items c.loop-call.replies.items c.push_reserved.new.self.items c.in_ok-answer.field-0
    c.loop-call.invariant c.in_ok-answer.ensures.ok (c.push_reserved.ensures.items ∙ ap (λ rs. rs ++ c.in_ok-answer.field-0 ∷ []) c.reserve.ensures.items))

pub returns-clause-told : goal.returns-clause-told
returns-clause-told c =
    let end : length c.args.calls.now ≤ c.loop-call.call-index = omega arith in
    let all : take c.loop-call.call-index c.args.calls.now ≡ c.args.calls.now = take_all c.loop-call.call-index c.args.calls.now end in
    run_tells c.args.self.now c.loop-call.self c.args.calls.now c.args.replies.now.items c.loop-call.replies.items
    (subst (λ (cs : List Call). IsRun c.args.self.now cs c.args.replies.now.items c.loop-call.replies.items c.loop-call.self) all c.loop-call.invariant)

pub returns-in_err-reserve-clause-told_early : goal.returns-in_err-reserve-clause-told_early
returns-in_err-reserve-clause-told_early c =
    let calls = take c.loop-call.call-index c.args.calls.now in
    tells_early c.from_residual.result c.args.self.now c.loop-call.self c.args.calls.now c.args.replies.now.items c.reserve.new.self.items c.loop-call.call-index c.loop-call-test.true
    (subst (λ (replies : List Reply). IsRun c.args.self.now calls c.args.replies.now.items replies c.loop-call.self) (sym c.reserve.ensures.items) c.loop-call.invariant)

pub returns-in_err-answer-clause-told_early : goal.returns-in_err-answer-clause-told_early
returns-in_err-answer-clause-told_early c =
    let calls = take c.loop-call.call-index c.args.calls.now in
    tells_early c.from_residual-in_err-answer.result c.args.self.now c.answer.new.self c.args.calls.now c.args.replies.now.items c.reserve.new.self.items c.loop-call.call-index c.loop-call-test.true
    (subst (λ (bucket : Bucketed). IsRun c.args.self.now calls c.args.replies.now.items c.reserve.new.self.items bucket) (sym c.in_err-answer.ensures.unchanged)
    (subst (λ (replies : List Reply). IsRun c.args.self.now calls c.args.replies.now.items replies c.loop-call.self) (sym c.reserve.ensures.items) c.loop-call.invariant))

pub returns-clause-told_early : goal.returns-clause-told_early
returns-clause-told_early c = tt
