use Rattle.std.proofs.Common.{Err, ap, rules}
use Rattle.std.specs.Prelude.{codes}
use Rattle.std.proofs.lemmas.Result.{IfErr-weaker, err_from_is_err_and, on_ok_weaker}
use Rattle.kv_run.proofs.FileEnds.{dump_ended_as, dumped_untold_as}
use Rattle.kv_run.proofs.OnFiles.{dumped_of, some_torn}
use Rattle.kv_run.proofs.files.show.Goals as goal

pub returns-clause-ok : goal.returns-clause-ok
returns-clause-ok g c =
    let all = c.in_ok-left_out.ensures.ok in
    dumped_of _ c.args.arguments.now.config _ all.0 _ _ c.tell_torn.result all.1 all.3 (search rules) c.in_ok-config.ensures.legal.0

pub returns-in_err-left_out-clause-err : goal.returns-in_err-left_out-clause-err
returns-in_err-left_out-clause-err g c =
    let p = err_from_is_err_and c.from_residual-in_err-left_out.result c.from_residual-in_err-left_out.ensures.1 in
    let dump = c.in_err-left_out.ensures in
    let legal = c.in_ok-config.ensures.legal in
    rw (p.1, p.2) (dump_ended_as _ c.args.arguments.now.config (search rules) _ _ _ _ _ (λ same. ap g.W.Output.held same) legal.0 legal.1 _ dump.early dump.refused (λ is. dump.write_fault (ap Err is)))

pub returns-clause-err : goal.returns-clause-err
returns-clause-err g c =
    let all = c.in_ok-left_out.ensures.ok in
    let legal = c.in_ok-config.ensures.legal in
    IfErr-weaker c.tell_torn.result _ _ (λ e why. dumped_untold_as _ c.args.arguments.now.config (search rules) _ _ _ _ _ (λ same. ap g.W.Output.held same) legal.0 legal.1 all.0 e all.1 all.3 why.0) c.tell_torn.ensures.err

pub returns-clause-untold : goal.returns-clause-untold
returns-clause-untold g c = IfErr-weaker c.tell_torn.result _ _ (λ e why. why.1) c.tell_torn.ensures.err

pub returns-clause-told : goal.returns-clause-told
returns-clause-told g c = on_ok_weaker c.tell_torn.result (λ told. some_torn (codes "left out") c.args.path.now c.in_ok-left_out.left_out _ _ told) c.tell_torn.ensures.told
