use Rattle.kv_journal.proofs.Restoring.{kept_of_stored as lemma}
use Rattle.kv_journal.proofs.laws.kept_is_of_stored.Goals as goal

pub returns : goal.returns
returns c = lemma
