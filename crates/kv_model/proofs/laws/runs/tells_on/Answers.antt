use Rattle.kv_model.proofs.Further.{tells_on}
use Rattle.kv_model.proofs.laws.runs.tells_on.Goals as goal

pub returns : goal.returns
returns c = tells_on
