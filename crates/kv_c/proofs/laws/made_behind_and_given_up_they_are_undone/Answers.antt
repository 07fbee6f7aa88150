use Rattle.kv_c.proofs.Chained.{all_undone}
use Rattle.kv_c.proofs.laws.made_behind_and_given_up_they_are_undone.Goals as goal

pub returns : goal.returns
returns c = all_undone
