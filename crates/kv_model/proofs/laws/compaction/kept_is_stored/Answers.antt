use Rattle.kv_model.proofs.Found.{retained_stored, kept_stored}
use Rattle.kv_model.proofs.laws.compaction.kept_is_stored.Goals as goal

pub returns-clause-retained : goal.returns-clause-retained
returns-clause-retained c = retained_stored

pub returns-clause-of_key : goal.returns-clause-of_key
returns-clause-of_key c = kept_stored
