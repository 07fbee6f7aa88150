use Rattle.std.proofs.Common.{rules}
use Rattle.kv_keys.proofs.grammar.+are_filter_tokens.Goals as goal

pub returns-then-is_rest : goal.returns-then-is_rest
returns-then-is_rest t c = search rules
