use Rattle.std.proofs.Common.{rules}
use Rattle.kv_watch.proofs.item.Shown.value.Goals as goal

pub returns : goal.returns
returns c = search rules
