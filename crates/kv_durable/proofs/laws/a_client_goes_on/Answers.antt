use Rattle.kv_durable.proofs.Resuming.{client_knows, nothing_twice}
use Rattle.kv_durable.proofs.laws.a_client_goes_on.Goals as goal

pub returns-clause-nothing_twice : goal.returns-clause-nothing_twice
returns-clause-nothing_twice c = nothing_twice

pub returns-clause-knows : goal.returns-clause-knows
returns-clause-knows c = client_knows
