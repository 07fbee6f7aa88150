use Rattle.std.proofs.Common.{◌≡◌, codes, ap, ap₂, ◌∙◌}
use Rattle.std.proofs.lemmas.Result.{IfOk-weaker}
use Rattle.clap.specs.Simple.{app_of, app_of_fields, new_app, with_rule}
use Rattle.kv_run.specs.Arguments.{versioned, with_files, with_limits}
use Rattle.kv_run.proofs.arguments.command.Goals as goal

pub returns : goal.returns
returns c =
    let versioned : app_of c.version.result ≡ versioned (new_app (codes "kvbucket")) =
    ap app_of_fields c.version.ensures ∙ ap versioned c.new.ensures.app in
    let named = c.in_ok-named.ensures.shape c.text.ensures.local ∙ ap₂ with_rule versioned c.text.ensures.rule in
    let limited = c.in_ok-with_limits.ensures ∙ ap with_limits named in
    let raced = c.in_ok-arg.ensures.shape c.race.ensures.local ∙ ap₂ with_rule limited c.race.ensures.rule in
    let formed = c.in_ok-raced.ensures.shape c.form.ensures.local ∙ ap₂ with_rule raced c.form.ensures.rule in
    IfOk-weaker c.with_files.result _ _ (λ made is. is ∙ ap with_files formed) c.with_files.ensures
