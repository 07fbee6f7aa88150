use Rattle.std.proofs.Common.{rules}
use Rattle.kv_keys.specs.Places.{fnv32_of}
use Rattle.kv_keys.proofs.place.fnv32.Goals as goal

pub returns : goal.returns
unfolding fnv32_of
returns c = search rules
