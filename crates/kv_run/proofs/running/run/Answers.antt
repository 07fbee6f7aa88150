use Rattle.std.proofs.Common.{rules}
use Rattle.kv_run.proofs.running.run.Goals as goal

pub returns-clause-ran : goal.returns-clause-ran
returns-clause-ran g c = search rules
