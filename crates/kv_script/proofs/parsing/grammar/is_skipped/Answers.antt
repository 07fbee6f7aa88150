use Rattle.std.proofs.Common.{rules}
use Rattle.kv_script.proofs.parsing.grammar.is_skipped.Goals as goal

pub returns-in-Some : goal.returns-in-Some
returns-in-Some c = search rules
