use Rattle.kv_model.proofs.Theorem.{told_prefix}
use Rattle.kv_model.proofs.laws.runs.tells_what_is_given.Goals as goal

pub returns : goal.returns
returns c = told_prefix
