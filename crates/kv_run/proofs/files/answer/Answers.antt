use Rattle.std.proofs.lemmas.Result.{IfErr-weaker}
use Rattle.kv_run.proofs.FileEnds.{ends_kept, told_kept}
use Rattle.kv_run.proofs.OnFiles.{on_ok}
use Rattle.kv_run.proofs.files.answer.Goals as goal

pub returns-in-Some-clause-err : goal.returns-in-Some-clause-err
returns-in-Some-clause-err g c =
    let path = c.in-Some.path.now in
    let torn = told_kept c.args.arguments.now path _ _ c.in-Some.ensures c.run.ensures.told in
    IfErr-weaker c.run.result _ _ (λ e ends. ends_kept c.args.arguments.now path _ _ _ _ _ _ _ _ c.in-Some.ensures torn e ends) c.run.ensures.err

pub returns-in-Some-clause-told : goal.returns-in-Some-clause-told
returns-in-Some-clause-told g c = on_ok c.run.result (told_kept c.args.arguments.now c.in-Some.path.now _ _ c.in-Some.ensures c.run.ensures.told)
