use Rattle.std.proofs.Common.{refl}
use Rattle.clap.proofs.OnLiterals.{clap_on_literals}
use Rattle.kv_run.proofs.laws.each_option_sets_its_part.Goals as goal

pub returns-clause-bucket : goal.returns-clause-bucket
unfolding clap_on_literals
returns-clause-bucket c = λ program value. refl

pub returns-clause-history : goal.returns-clause-history
unfolding clap_on_literals
returns-clause-history c = λ program value. refl

pub returns-clause-value_limit : goal.returns-clause-value_limit
unfolding clap_on_literals
returns-clause-value_limit c = λ program value. refl

pub returns-clause-write_limit : goal.returns-clause-write_limit
unfolding clap_on_literals
returns-clause-write_limit c = λ program value. refl

pub returns-clause-revision_limit : goal.returns-clause-revision_limit
unfolding clap_on_literals
returns-clause-revision_limit c = λ program value. refl

pub returns-clause-race : goal.returns-clause-race
unfolding clap_on_literals
returns-clause-race c = λ program value. refl

pub returns-clause-text : goal.returns-clause-text
unfolding clap_on_literals
returns-clause-text c = λ program. refl

pub returns-clause-journal : goal.returns-clause-journal
unfolding clap_on_literals
returns-clause-journal c = λ program value. refl

pub returns-clause-sync : goal.returns-clause-sync
unfolding clap_on_literals
returns-clause-sync c = λ program value. refl

pub returns-clause-dump : goal.returns-clause-dump
unfolding clap_on_literals
returns-clause-dump c = λ program value. refl
