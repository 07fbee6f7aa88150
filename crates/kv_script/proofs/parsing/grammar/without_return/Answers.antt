use Rattle.std.proofs.Common.{rules}
use Rattle.kv_script.proofs.parsing.grammar.without_return.Goals as goal

pub returns-then-line-eq13 : goal.returns-then-line-eq13
returns-then-line-eq13 c = search rules
