use Rattle.std.proofs.Common.{rules}
use Rattle.kv_c.proofs.request.create.Goals as goal

pub returns : goal.returns
returns c = search rules
