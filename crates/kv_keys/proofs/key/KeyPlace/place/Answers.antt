use Rattle.std.proofs.Common.{rules}
use Rattle.kv_keys.proofs.key.KeyPlace.place.Goals as goal

pub returns : goal.returns
returns c = search rules
