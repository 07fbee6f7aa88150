use Rattle.std.proofs.Common.{arith}
use Rattle.kv_keys.specs.Grammar.{are_filters}
use Rattle.kv_keys.proofs.Parts.{parts_some}
use Rattle.kv_keys.proofs.filters.are_filters.Goals as goal

pub returns-then-count_of-le-MOST_FILTERS : goal.returns-then-count_of-le-MOST_FILTERS
unfolding are_filters
returns-then-count_of-le-MOST_FILTERS c = grind (arith, parts_some)
