use Rattle.std.proofs.Common.{rules, tests, lit<}
use Rattle.std.proofs.lemmas.Iterator.Search.{any_from_yields_List}
use Rattle.std.proofs.lemmas.Iterator.Splits.{YieldsList-from_str_split}
use Rattle.kv_keys.specs.Matching.{matches}
use Rattle.kv_keys.proofs.filters.any_matches.Goals as goal

pub returns : goal.returns
returns c =
    let split = c.split.ensures in
    any_from_yields_List (λ filter. matches filter c.args.key.now) _ _ c.any.result c.any.ensures.ran (YieldsList-from_str_split 44 c.args.text.now (lit< tt) split.text split.has_more split.pattern) (λ x b q k. search (rules, tests))
