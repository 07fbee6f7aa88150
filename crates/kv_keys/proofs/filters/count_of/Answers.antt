use Rattle.std.proofs.Common.{lit<}
use Rattle.std.proofs.lemmas.Iterator.Consumers.{count_from_yields_List}
use Rattle.std.proofs.lemmas.Iterator.Splits.{YieldsList-from_str_split}
use Rattle.kv_keys.proofs.filters.count_of.Goals as goal

pub returns : goal.returns
returns c =
    let split = c.split.ensures in
    count_from_yields_List _ c.count.result c.count.ensures.ran (YieldsList-from_str_split 44 c.args.text.now (lit< tt) split.text split.has_more split.pattern)
