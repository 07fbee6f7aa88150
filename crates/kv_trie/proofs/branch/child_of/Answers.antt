use Rattle.std.proofs.Common.{◌<◌, map, length, None, ap, sym, ◌∙◌, arith}
use Rattle.std.proofs.lemmas.List.{get_or-map, length-map}
use Rattle.kv_trie.specs.Form.{child_at}
use Rattle.kv_trie.specs.Stored.{shape_of, child_slots, few_slots}
use Rattle.kv_trie.specs.inside.Few.{slots_of}
use Rattle.kv_trie.proofs.Slots.{child_at-from}
use Rattle.kv_trie.proofs.Stored.{shape_of-Few, shape_of-Branch}
use Rattle.kv_trie.proofs.branch.child_of.Goals as goal

pub returns-in-Some : goal.returns-in-Some
returns-in-Some g c =
    let few = c.deref-in-Some.result.now in
    let at = rw (c.deref.ensures, ← c.deref-in-Some.ensures) at c.in-Some.ensures in
    let within : c.in-Some.spot < length few.children = omega (arith, at.within) in
    ap (child_at c.args.at) (ap slots_of (ap shape_of c.in-Few.is ∙ shape_of-Few c.in-Few.few) ∙ ap few_slots (sym c.deref-in-Some.ensures))
    ∙ sym at.child
    ∙ get_or-map shape_of few.children c.in-Some.spot c.index-deref-spot.result None within

pub returns-in-Branch : goal.returns-in-Branch
returns-in-Branch g c =
    let children = c.deref-in-Branch.result.now.value in
    let within : c.args.at < length children = omega (arith, c.requires) in
    let mapped : c.args.at < length (map shape_of children) = omega (arith, within, length-map children shape_of) in
    ap (child_at c.args.at) (ap slots_of (ap shape_of c.in-Branch.is ∙ shape_of-Branch c.in-Branch.children) ∙ ap (λ p. child_slots p.value) (sym c.deref-in-Branch.ensures))
    ∙ child_at-from c.args.at 0 c.args.at (map shape_of children) None (omega arith) mapped
    ∙ get_or-map shape_of children c.args.at c.index-deref-at.result None within
