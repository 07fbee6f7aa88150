use Rattle.kv_model.proofs.Meeting.{same_items}
use Rattle.kv_model.proofs.laws.runs.others_change_nothing.Goals as goal

pub returns : goal.returns
returns c = same_items
