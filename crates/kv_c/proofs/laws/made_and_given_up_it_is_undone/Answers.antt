use Rattle.kv_c.proofs.Settled.{act_undone, batch_undone, write_undone}
use Rattle.kv_c.proofs.laws.made_and_given_up_it_is_undone.Goals as goal

pub returns-clause-write : goal.returns-clause-write
returns-clause-write c = write_undone

pub returns-clause-batch : goal.returns-clause-batch
returns-clause-batch c = batch_undone

pub returns-clause-act : goal.returns-clause-act
returns-clause-act c = act_undone
