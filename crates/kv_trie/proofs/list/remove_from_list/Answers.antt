use Rattle.std.proofs.Common.{map, sym, ap, ◌∙◌, arith}
use Rattle.std.proofs.lemmas.List.{length-map}
use Rattle.std.specs.Arc.{arc_value}
use Rattle.kv_trie.proofs.Clones.{map-remove}
use Rattle.kv_trie.proofs.list.remove_from_list.Goals as goal

pub remove-requires : goal.remove-requires
remove-requires g c =
    let found = rw c.deref.ensures.value at c.in-Ok.ensures.found in
    omega (arith, found.within, length-map c.args.pairs.now.items arc_value, c.args.pairs.now.ok.0)

pub unreachable-requires : goal.unreachable-requires
unreachable-requires g c =
    let gap = rw c.deref.ensures.value at c.in-Err.ensures.absent in
    let some = rw (gap.absent c.requires.order) at c.requires.there in
    cc

pub returns : goal.returns
returns g c =
    let found = rw c.deref.ensures.value at c.in-Ok.ensures.found in
    ap (λ l. map arc_value l) c.remove.ensures.items ∙ map-remove arc_value c.args.pairs.now.items c.in-Ok.at ∙ sym found.taken
