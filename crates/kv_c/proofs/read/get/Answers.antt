use Rattle.std.proofs.Common.{rules}
use Rattle.kv_c.proofs.read.get.Goals as goal

pub returns-in-Ok-clause-value : goal.returns-in-Ok-clause-value
returns-in-Ok-clause-value c = search rules

pub returns-in-Ok-clause-code : goal.returns-in-Ok-clause-code
returns-in-Ok-clause-code c = search rules
