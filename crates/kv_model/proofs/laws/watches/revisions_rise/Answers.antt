use Rattle.kv_model.proofs.GivenLaws.{given_rises as lemma}
use Rattle.kv_model.proofs.laws.watches.revisions_rise.Goals as goal

pub returns : goal.returns
returns c = lemma
