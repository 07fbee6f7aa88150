use Rattle.kv_model.proofs.GivenLaws.{given_goes_on as lemma}
use Rattle.kv_model.proofs.laws.watches.given_goes_on.Goals as goal

pub returns : goal.returns
returns c = lemma
