use Rattle.std.proofs.Common.{rules}
use Rattle.kv_c.proofs.exports.compact.compact.Goals as goal

pub returns-in-Ok-clause-compacted : goal.returns-in-Ok-clause-compacted
returns-in-Ok-clause-compacted c = search rules
