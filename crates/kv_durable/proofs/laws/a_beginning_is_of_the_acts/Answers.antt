use Rattle.kv_durable.proofs.Crashing.{beginning_acts as lemma}
use Rattle.kv_durable.proofs.laws.a_beginning_is_of_the_acts.Goals as goal

pub returns : goal.returns
returns c = lemma
