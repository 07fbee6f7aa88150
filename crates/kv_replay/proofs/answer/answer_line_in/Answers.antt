use Rattle.std.proofs.Common.{◌++◌, Err, append-nil, sym, ap, ◌∙◌}
use Rattle.std.proofs.lemmas.Result.{on_ok_weaker, on_err_weaker}
use Rattle.kv_replay.proofs.Parsing.{line_steps-skipped, line_steps-read, on_ok_both, other_than_memory, refused_by}
use Rattle.kv_replay.proofs.Taking.{between_at_once, ends_at_once, read_take}
use Rattle.kv_replay.proofs.answer.answer_line_in.Goals as goal

pub returns-then-is_skipped-clause-ok : goal.returns-then-is_skipped-clause-ok
returns-then-is_skipped-clause-ok c = λ state r.
    rw (line_steps-skipped c.args.form state c.args.line.now (sym c.is_skipped.ensures ∙ c.if-is_skipped.true)) (sym (append-nil _), r)

pub returns-in-Ok-clause-ok : goal.returns-in-Ok-clause-ok
returns-in-Ok-clause-ok c =
    on_ok_weaker c.answer_command.result (λ does state r.
    rw (line_steps-read c.args.form state c.args.line.now _ (sym c.is_skipped.ensures ∙ c.if-is_skipped.false) c.in-Ok.ensures) (does state r))
    c.answer_command.ensures.ok

pub returns-in-Ok-clause-err : goal.returns-in-Ok-clause-err
returns-in-Ok-clause-err c =
    on_err_weaker c.answer_command.result (λ early state r.
    rw (line_steps-read c.args.form state c.args.line.now _ (sym c.is_skipped.ensures ∙ c.if-is_skipped.false) c.in-Ok.ensures) (early state r))
    c.answer_command.ensures.err

pub returns-in-Err-clause-ok : goal.returns-in-Err-clause-ok
returns-in-Err-clause-ok c =
    on_ok_both c.answer_refusal.result (λ cause text state r.
    rw (line_steps-read c.args.form state c.args.line.now (Err c.in-Err.error) (sym c.is_skipped.ensures ∙ c.if-is_skipped.false) (refused_by _ _ c.in-Err.ensures (other_than_memory _ cause)))
    (text ∙ ap (λ t. c.args.out.now.items ++ t) (sym (append-nil _)), r))
    c.answer_refusal.ensures.cause c.answer_refusal.ensures.ok

pub returns-in-Err-clause-err : goal.returns-in-Err-clause-err
returns-in-Err-clause-err c = on_err_weaker c.answer_refusal.result (λ same state r. ends_at_once state _ _ _ _ same r) c.answer_refusal.ensures.err

pub returns-in-Ok-clause-shown : goal.returns-in-Ok-clause-shown
returns-in-Ok-clause-shown c =
    on_err_weaker c.answer_command.result (λ shown watch count same state r. shown watch count (read_take c.args.form _ _ watch count c.in-Ok.ensures same) state r)
    c.answer_command.ensures.shown

pub returns-in-Err-clause-shown : goal.returns-in-Err-clause-shown
returns-in-Err-clause-shown c = on_err_weaker c.answer_refusal.result (λ kept watch count same state r. between_at_once state _ _ _ _ kept r) c.answer_refusal.ensures.err
