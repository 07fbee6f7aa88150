use Rattle.kv_c.proofs.Settled.{act_done, batch_done, write_done}
use Rattle.kv_c.proofs.laws.made_and_settled_it_is_done.Goals as goal

pub returns-clause-write : goal.returns-clause-write
returns-clause-write c = write_done

pub returns-clause-batch : goal.returns-clause-batch
returns-clause-batch c = batch_done

pub returns-clause-act : goal.returns-clause-act
returns-clause-act c = act_done
