use Rattle.kv_model.proofs.KeptLaws.{retained_one as lemma}
use Rattle.kv_model.proofs.laws.watches.one_kept_is_latest.Goals as goal

pub returns : goal.returns
returns c = lemma
