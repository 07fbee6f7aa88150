use Rattle.kv_durable.proofs.Crashing.{one_reading as lemma}
use Rattle.kv_durable.proofs.laws.one_reading.Goals as goal

pub returns : goal.returns
returns c = lemma
