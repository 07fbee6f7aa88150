use Rattle.std.proofs.Common.{length}
use Rattle.kv_keys.proofs.grammar.+are_filter_tokens.Given as goal

abbrev pub decreases-are_filter_tokens : goal.decreases-are_filter_tokens
decreases-are_filter_tokens l = length l.text.now
