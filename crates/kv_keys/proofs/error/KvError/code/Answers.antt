use Rattle.std.proofs.Common.{rules}
use Rattle.kv_keys.proofs.error.KvError.code.Goals as goal

pub returns-in-BadFloor : goal.returns-in-BadFloor
returns-in-BadFloor c = search rules
