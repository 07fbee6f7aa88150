use Rattle.std.proofs.Common.{sym, ◌∙◌, ap}
use Rattle.std.specs.List.{join_with_byte}
use Rattle.std.proofs.lemmas.List.Splits.{join_with_byte-slice_split}
use Rattle.kv_keys.specs.Grammar.{parts}
use Rattle.kv_keys.proofs.filters.Filters.as_str.Goals as goal

pub returns-clause-value : goal.returns-clause-value
returns-clause-value c =
    sym (join_with_byte-slice_split 44 c.as_str.result.now) ∙ ap (join_with_byte 44) (ap parts c.as_str.ensures.value ∙ c.self.view_is)
