use Rattle.std.proofs.Common.{refl, rules}
use Rattle.kv_store.proofs.read.if_put.Goals as goal

pub returns-else-is_put : goal.returns-else-is_put
returns-else-is_put c = (refl, search rules)
