use Rattle.kv_model.proofs.Theorem.{tells_each_watch}
use Rattle.kv_model.proofs.laws.runs.tells_each_watch.Goals as goal

pub returns : goal.returns
returns c = tells_each_watch
