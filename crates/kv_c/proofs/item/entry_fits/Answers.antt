use Rattle.std.proofs.Common.{rules}
use Rattle.kv_c.proofs.item.entry_fits.Goals as goal

pub returns-then-as_str-keys : goal.returns-then-as_str-keys
returns-then-as_str-keys c = search rules

pub returns-else-as_str-keys : goal.returns-else-as_str-keys
returns-else-as_str-keys c = search rules
