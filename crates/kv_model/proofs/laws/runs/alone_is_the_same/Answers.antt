use Rattle.kv_model.proofs.Meeting.{alone}
use Rattle.kv_model.proofs.laws.runs.alone_is_the_same.Goals as goal

pub returns : goal.returns
returns c = alone
