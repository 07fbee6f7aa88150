use Rattle.std.proofs.Common.{◌≡◌, ℕ, ◌<◌, List, length, get_or, map, Some, sym, ap, ◌∙◌, arith}
use Rattle.std.proofs.lemmas.List.{length-map, get_or-map}
use Rattle.std.proofs.lemmas.Option.{slice_get-get_or}
use Rattle.std.specs.List.{slice_get}
use Rattle.std.specs.Option.{unwrap_or}
use Rattle.kv_trie.specs.Stored.{shape_of}
use Rattle.kv_trie.specs.inside.Few.{has_slots}
use Rattle.kv_trie.proofs.remove.take_lone.Goals as goal

-- what stands at an index is what is read there
read : {A : Type 0} (xs : List A) (i : ℕ) (x a : A) → i < length xs → slice_get xs i ≡ Some a → get_or xs i x ≡ a
read xs i x a l e = ap (λ o. unwrap_or o x) (sym (slice_get-get_or xs i x l) ∙ e)

pub returns-in-Leaf : goal.returns-in-Leaf
returns-in-Leaf g c =
    let children = c.args.children.now in
    let within : c.in-Leaf.at < length children = c.in-Leaf.ensures.0 in
    let mapped : c.in-Leaf.at < length (map shape_of children) = omega (arith, within, length-map children shape_of) in
    let there = get_or-map shape_of children c.in-Leaf.at c.index-children-at.result (shape_of c.index-children-at.result) within in
    let moved = ap shape_of c.replace.ensures.value ∙ sym there ∙ read (map shape_of children) c.in-Leaf.at (shape_of c.index-children-at.result) _ mapped c.in-Leaf.ensures.1 in
    (moved, ap has_slots moved ∙ c.in-Leaf.ensures.2)
