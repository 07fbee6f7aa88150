use Rattle.std.proofs.Common.{rules}
use Rattle.kv_model.proofs.options.start_asked.Goals as goal

pub returns-then-history-3 : goal.returns-then-history-3
returns-then-history-3 c = search rules
