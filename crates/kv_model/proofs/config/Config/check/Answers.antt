use Rattle.std.proofs.Common.{rules}
use Rattle.kv_model.proofs.config.Config.check.Goals as goal

pub returns-then-not-has_legal_numbers-clause-refused : goal.returns-then-not-has_legal_numbers-clause-refused
returns-then-not-has_legal_numbers-clause-refused c = search rules
