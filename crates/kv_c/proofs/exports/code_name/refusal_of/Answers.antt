use Rattle.std.proofs.Common.{rules}
use Rattle.kv_c.proofs.exports.code_name.refusal_of.Goals as goal

pub returns-in-20 : goal.returns-in-20
returns-in-20 c = search rules
