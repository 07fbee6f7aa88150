use Rattle.std.proofs.Common.{rules}
use Rattle.kv_keys.proofs.matching.token_matches.Goals as goal

pub returns-else-eq : goal.returns-else-eq
returns-else-eq c = search rules
