use Rattle.kv_journal.proofs.PuttingBack.{one_more_back as lemma}
use Rattle.kv_journal.proofs.laws.one_more_is_put_back.Goals as goal

pub returns : goal.returns
returns c = lemma
