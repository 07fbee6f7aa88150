use Rattle.std.proofs.Common.{rules}
use Rattle.kv_keys.proofs.key.KeyPartialEq.eq.Goals as goal

pub returns : goal.returns
returns c = search rules
