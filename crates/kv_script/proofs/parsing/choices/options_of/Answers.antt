use Rattle.std.proofs.Common.{ap, nat_lt}
use Rattle.std.proofs.lemmas.Result.{IfErr-weaker}
use Rattle.kv_script.specs.Commands.{texts}
use Rattle.kv_script.proofs.Choosing.{clashes}
use Rattle.kv_script.proofs.parsing.choices.options_of.Goals as goal

pub returns-clause-err : goal.returns-clause-err
returns-clause-err c =
    IfErr-weaker c.of_flags.result _ _ (λ e asked. clashes (texts c.args.words.now) _ _ _ (ap (nat_lt 0) c.times.ensures) (ap (nat_lt 0) c.times-2.ensures) c.from_among.ensures e asked)
    c.of_flags.ensures.err
