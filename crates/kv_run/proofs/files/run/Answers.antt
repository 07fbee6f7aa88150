use Rattle.std.proofs.Common.{inl, inr, refl, rules}
use Rattle.std.specs.Prelude.{codes}
use Rattle.std.proofs.lemmas.Result.{IfErr-weaker, err_from_is_err_and}
use Rattle.kv_replay.proofs.Counting.{asked_so_often}
use Rattle.kv_run.proofs.OnFiles.{run_ended, run_on_acts, some_torn}
use Rattle.kv_run.proofs.files.run.Goals as goal

pub returns-clause-ok : goal.returns-clause-ok
returns-clause-ok g c =
    run_on_acts _ c.args.arguments.now.form _ c.args.arguments.now.config c.in_ok-durable.ensures.ok.0 _ _ _ _ _ _ _ _ c.run_durable-result.result.result
    (search rules) (search rules) (search rules) (search rules) (search rules) c.in_ok-durable.ensures.ok.1 c.run_durable-result.ensures.ok

pub returns-clause-err : goal.returns-clause-err
returns-clause-err g c =
    IfErr-weaker c.run_durable-result.result.result _ _ (λ e ends. inr ends)
    (run_ended _ c.args.arguments.now.form _ c.args.arguments.now.config c.in_ok-durable.ensures.ok.0 _ _ _ _ _ _ _ _ c.run_durable-result.result.result
    (search rules) (search rules) (search rules) (search rules) (search rules) c.in_ok-durable.ensures.ok.1 c.run_durable-result.ensures.early
    (λ fault.
    let source = c.new-source.ensures in
    let failed = rw source.reader at (c.run_durable-result.ensures.read_fault fault) in
    let counts = rw source.reader at (rw source.calls at c.run_durable-result.ensures.same_source.1.1) in
    asked_so_often (g.R.Input.failed_between c.args.reader.now) g.R.Input.asked _ _ _ _ _ (search rules) failed counts)
    c.run_durable-result.ensures.write_fault)

-- no path for a new file: nothing was begun
pub returns-in_err-next-clause-err : goal.returns-in_err-next-clause-err
returns-in_err-next-clause-err g c =
    let p = err_from_is_err_and c.from_residual-in_err-next.result c.from_residual-in_err-next.ensures.1 in
    rw (p.1, p.2) (inl (c.in_err-next.ensures c.args.arguments.now.config, ((refl, refl), refl)))

pub returns-clause-told : goal.returns-clause-told
returns-clause-told g c = some_torn (codes "dropped") c.args.path.now c.in_ok-durable.field-0.dropped _ _ c.in_ok-tell_torn.ensures.told
