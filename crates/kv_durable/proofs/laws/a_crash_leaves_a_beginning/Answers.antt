use Rattle.kv_durable.proofs.Crashing.{after_a_crash as lemma}
use Rattle.kv_durable.proofs.laws.a_crash_leaves_a_beginning.Goals as goal

pub returns : goal.returns
returns c = lemma
