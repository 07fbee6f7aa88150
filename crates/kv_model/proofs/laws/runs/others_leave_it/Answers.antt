use Rattle.kv_model.proofs.Others.{others_step}
use Rattle.kv_model.proofs.laws.runs.others_leave_it.Goals as goal

pub returns : goal.returns
returns c = others_step
