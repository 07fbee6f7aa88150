use Rattle.kv_model.proofs.Meeting.{acts_left}
use Rattle.kv_model.proofs.laws.runs.leaves_the_acts.Goals as goal

pub returns : goal.returns
returns c = acts_left
