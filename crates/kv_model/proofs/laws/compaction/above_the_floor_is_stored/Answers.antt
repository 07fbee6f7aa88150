use Rattle.kv_model.proofs.Found.{above_stored}
use Rattle.kv_model.proofs.Storing.{floor_within}
use Rattle.kv_model.proofs.laws.compaction.above_the_floor_is_stored.Goals as goal

pub returns-clause-above : goal.returns-clause-above
returns-clause-above c = above_stored

pub returns-clause-floor : goal.returns-clause-floor
returns-clause-floor c = floor_within
