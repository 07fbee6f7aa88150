use Rattle.kv_durable_script.proofs.Leading.{dump_leads}
use Rattle.kv_durable_script.proofs.laws.a_dump_leads_to_the_same_acts.Goals as goal

pub returns : goal.returns
returns c = dump_leads
