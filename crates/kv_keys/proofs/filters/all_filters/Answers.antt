use Rattle.std.proofs.Common.{rules, tests, lit<}
use Rattle.std.proofs.lemmas.Iterator.Search.{all_from_yields_List}
use Rattle.std.proofs.lemmas.Iterator.Splits.{YieldsList-from_str_split}
use Rattle.kv_keys.specs.Grammar.{is_filter}
use Rattle.kv_keys.proofs.filters.all_filters.Goals as goal

pub returns : goal.returns
returns c =
    let split = c.split.ensures in
    all_from_yields_List is_filter _ _ c.all.result c.all.ensures.ran (YieldsList-from_str_split 44 c.args.text.now (lit< tt) split.text split.has_more split.pattern) (λ x b q k. search (rules, tests))
