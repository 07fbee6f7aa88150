use Rattle.kv_durable.proofs.Crashing.{any_moment as lemma}
use Rattle.kv_durable.proofs.laws.at_any_moment.Goals as goal

pub returns : goal.returns
returns c = lemma
