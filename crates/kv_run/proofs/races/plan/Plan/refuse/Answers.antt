use Rattle.std.proofs.Common.{rules}
use Rattle.kv_run.proofs.races.plan.Plan.refuse.Goals as goal

pub returns-clause-ok : goal.returns-clause-ok
returns-clause-ok c = search rules
