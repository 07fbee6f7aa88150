use Rattle.std.proofs.Common.{ap, ap₂, ◌∙◌}
use Rattle.std.proofs.lemmas.Result.{IfOk-weaker}
use Rattle.clap.specs.Simple.{app_of, with_rule}
use Rattle.kv_run.proofs.arguments.with_files.Goals as goal

pub returns : goal.returns
returns c =
    let one = c.in_ok-arg.ensures.shape c.word.ensures.local ∙ ap (with_rule (app_of c.args.command)) c.word.ensures.rule in
    let two = c.in_ok-arg-2.ensures.shape c.word-2.ensures.local ∙ ap₂ with_rule one c.word-2.ensures.rule in
    IfOk-weaker c.arg-3.result _ _ (λ made adds. adds.shape c.word-3.ensures.local ∙ ap₂ with_rule two c.word-3.ensures.rule) c.arg-3.ensures
