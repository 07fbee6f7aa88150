use Rattle.kv_model.proofs.Theorem.{told_all}
use Rattle.kv_model.proofs.laws.runs.tells_all.Goals as goal

pub returns : goal.returns
returns c = told_all
