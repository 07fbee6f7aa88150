use Rattle.std.proofs.Common.{rules}
use Rattle.kv_model.proofs.config.Config.has_legal_numbers.Goals as goal

pub returns-then-self-ge1-3 : goal.returns-then-self-ge1-3
returns-then-self-ge1-3 c = search rules
