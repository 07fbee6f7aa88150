use Rattle.std.proofs.Common.{rules}
use Rattle.kv_keys.specs.Matching.{matches}
use Rattle.kv_keys.proofs.Tokens.{no_match_left, no_match_right}
use Rattle.kv_keys.proofs.matching.+matches.Goals as goal

pub returns-in_default : goal.returns-in_default
unfolding matches
returns-in_default t c = search (rules, no_match_left, no_match_right)
