use Rattle.std.proofs.Common.{rules}
use Rattle.kv_run.proofs.races.plan.takes_part.Goals as goal

pub returns-else-starts_with-5 : goal.returns-else-starts_with-5
returns-else-starts_with-5 c = search rules
