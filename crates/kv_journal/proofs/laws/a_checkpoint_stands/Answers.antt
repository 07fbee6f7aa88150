use Rattle.kv_journal.proofs.Restored.{stands_again as lemma}
use Rattle.kv_journal.proofs.laws.a_checkpoint_stands.Goals as goal

pub returns : goal.returns
returns c = lemma
