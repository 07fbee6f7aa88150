use Rattle.kv_model.proofs.Few.{few}
use Rattle.kv_model.proofs.laws.runs.watches_are_few.Goals as goal

pub returns-clause-open_now : goal.returns-clause-open_now
returns-clause-open_now c = λ config calls. (few config calls).open_now

pub returns-clause-ever : goal.returns-clause-ever
returns-clause-ever c = λ config calls. (few config calls).ever
