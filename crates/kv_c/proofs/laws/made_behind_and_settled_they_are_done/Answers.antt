use Rattle.kv_c.proofs.Chained.{all_done}
use Rattle.kv_c.proofs.laws.made_behind_and_settled_they_are_done.Goals as goal

pub returns : goal.returns
returns c = all_done
