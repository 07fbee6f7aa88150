use Rattle.std.proofs.Common.{sym, ap, ◌∙◌, map, Some}
use Rattle.std.specs.Arc.{arc_value}
use Rattle.kv_trie.specs.Form.{row}
use Rattle.kv_trie.proofs.Retaining.{not_empty, listed_many}
use Rattle.kv_trie.proofs.Stored.{shape_of-List}
use Rattle.kv_trie.proofs.retain.listed.Goals as goal

pub returns-in_ok-new-in-None : goal.returns-in_ok-new-in-None
returns-in_ok-new-in-None g c =
    let some = not_empty _ _ c.args.pairs.ok.0 (sym c.if-is_empty.false ∙ c.is_empty.ensures) in
    let made = c.in_ok-new-in-None.ensures.ok ∙ c.in-None.ensures.1 in
    shape_of-List c.in_ok-new-in-None.field-0 ∙ ap (λ v. Some (row (map arc_value v.items))) made ∙ listed_many arc_value c.args.pairs.items some c.in-None.ensures.0
