use Rattle.std.proofs.Common.{◌≡◌, rules, Ok}
use Rattle.kv_model.specs.Configuration.{configure}
use Rattle.kv_model.specs.State.{empty}
use Rattle.kv_replay.specs.Faults.{EndsRun}
use Rattle.kv_replay.proofs.Ending.{ends_opening, handed_on, nothing_done, ran_new}
use Rattle.kv_replay.proofs.engine.run_script.Goals as goal

pub returns-in_err-bucket-clause-ran : goal.returns-in_err-bucket-clause-ran
returns-in_err-bucket-clause-ran g c =
    let config = c.args.config.now in
    nothing_done c.args.form config _ _ c.from_residual.result c.from_residual.ensures.0
    (handed_on c.from_residual.result _ (λ e. EndsRun e (configure config)) c.from_residual.ensures.1 (ends_opening config _ c.in_err-bucket.ensures.refused))

pub returns-clause-ran : goal.returns-clause-ran
returns-clause-ran g c =
    let config = c.args.config.now in
    let legal : configure config ≡ Ok config = search rules in
    ran_new c.args.form config _ _ _ _ _ legal (c.run_on.ensures.ran (empty config) c.in_ok-bucket.ensures.ok)
