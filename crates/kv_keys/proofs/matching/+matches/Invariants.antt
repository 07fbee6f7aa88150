use Rattle.std.proofs.Common.{length}
use Rattle.kv_keys.proofs.matching.+matches.Given as goal

abbrev pub decreases-matches : goal.decreases-matches
decreases-matches l = length l.filter.now
