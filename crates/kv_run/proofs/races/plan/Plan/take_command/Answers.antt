use Rattle.std.proofs.Common.{Err, sym, ◌∙◌}
use Rattle.std.proofs.lemmas.Result.{on_ok_weaker}
use Rattle.kv_replay.proofs.Parsing.{on_ok_both, refused_by}
use Rattle.kv_run.proofs.Lines.{other_adds, read_adds, skipped_adds}
use Rattle.kv_run.proofs.races.plan.Plan.take_command.Goals as goal

pub returns-then-is_skipped-clause-ok : goal.returns-then-is_skipped-clause-ok
returns-then-is_skipped-clause-ok c = skipped_adds c.args.form _ c.args.line.now (sym c.is_skipped.ensures ∙ c.if-is_skipped.true)

pub returns-then-not-takes_part-clause-ok : goal.returns-then-not-takes_part-clause-ok
returns-then-not-takes_part-clause-ok c =
    on_ok_weaker c.refuse.result (λ added. added ∙ other_adds c.args.form _ c.args.line.now (sym c.is_skipped.ensures ∙ c.if-is_skipped.false) (sym c.takes_part.ensures ∙ c.if-not-takes_part.true))
    c.refuse.ensures.ok

pub returns-in-Ok-clause-ok : goal.returns-in-Ok-clause-ok
returns-in-Ok-clause-ok c =
    on_ok_weaker c.add.result (λ added.
    added ∙ read_adds c.args.form _ c.args.line.now _ (sym c.is_skipped.ensures ∙ c.if-is_skipped.false) (sym c.takes_part.ensures ∙ c.if-not-takes_part.false) c.in-Ok.ensures)
    c.add.ensures.ok

pub returns-in-Err-clause-ok : goal.returns-in-Err-clause-ok
returns-in-Err-clause-ok c =
    on_ok_both c.refuse_line.result (λ cause added.
    added ∙ read_adds c.args.form _ c.args.line.now (Err c.in-Err.error) (sym c.is_skipped.ensures ∙ c.if-is_skipped.false) (sym c.takes_part.ensures ∙ c.if-not-takes_part.false)
    (refused_by _ _ c.in-Err.ensures cause))
    c.refuse_line.ensures.cause c.refuse_line.ensures.ok
