use Rattle.std.proofs.Common.{refl}
use Rattle.clap.proofs.OnLiterals.{clap_on_literals}
use Rattle.kv_run.proofs.laws.no_option_leaves_the_defaults.Goals as goal

pub returns-clause-wanted : goal.returns-clause-wanted
unfolding clap_on_literals
returns-clause-wanted c = λ program. refl

pub returns-clause-fine : goal.returns-clause-fine
unfolding clap_on_literals
returns-clause-fine c = λ program. refl
