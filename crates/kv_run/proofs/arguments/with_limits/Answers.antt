use Rattle.std.proofs.Common.{ap, ap₂, ◌∙◌}
use Rattle.std.proofs.lemmas.Result.{IfOk-weaker}
use Rattle.clap.specs.Simple.{app_of, with_rule}
use Rattle.kv_run.proofs.arguments.with_limits.Goals as goal

pub returns : goal.returns
returns c =
    let one = c.in_ok-arg.ensures.shape c.number.ensures.local ∙ ap (with_rule (app_of c.args.command)) c.number.ensures.rule in
    let two = c.in_ok-arg-2.ensures.shape c.number-2.ensures.local ∙ ap₂ with_rule one c.number-2.ensures.rule in
    let three = c.in_ok-arg-3.ensures.shape c.number-3.ensures.local ∙ ap₂ with_rule two c.number-3.ensures.rule in
    IfOk-weaker c.arg-4.result _ _ (λ made adds. adds.shape c.number-4.ensures.local ∙ ap₂ with_rule three c.number-4.ensures.rule) c.arg-4.ensures
