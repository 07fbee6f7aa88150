use Rattle.kv_model.proofs.Behind.{compacts_to}
use Rattle.kv_model.proofs.laws.compaction.none_is_behind_a_floor.Goals as goal

pub returns : goal.returns
returns c = λ state floor made may. compacts_to floor made state may
