use Rattle.std.proofs.Common.{rules}
use Rattle.kv_model.proofs.request.Request.value.Goals as goal

pub returns-in-Create : goal.returns-in-Create
returns-in-Create c = search rules
