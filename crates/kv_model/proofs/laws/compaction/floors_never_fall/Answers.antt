use Rattle.kv_model.proofs.Storing.{floor_never_falls}
use Rattle.kv_model.proofs.laws.compaction.floors_never_fall.Goals as goal

pub returns : goal.returns
returns c = floor_never_falls
