use Rattle.kv_model.proofs.KeptLaws.{from_first as lemma}
use Rattle.kv_model.proofs.laws.watches.from_first_is_history.Goals as goal

pub returns : goal.returns
returns c = lemma
