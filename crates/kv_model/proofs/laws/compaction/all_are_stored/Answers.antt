use Rattle.kv_model.proofs.Storing.{all_stored}
use Rattle.kv_model.proofs.laws.compaction.all_are_stored.Goals as goal

pub returns : goal.returns
returns c = all_stored
