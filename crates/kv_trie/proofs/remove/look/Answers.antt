use Rattle.std.proofs.Common.{◌<◌, length, map, refl, sym, ap, ◌∙◌, arith}
use Rattle.std.proofs.lemmas.List.{length-map}
use Rattle.std.specs.Option.{is_some}
use Rattle.kv_trie.specs.Stored.{shape_of}
use Rattle.kv_trie.proofs.Looking.{only_missing, only_leaf, one_more, stands}
use Rattle.kv_trie.proofs.Stored.{shape_of-Empty, shape_of-Leaf, shape_of-Few, shape_of-Branch, shape_of-List}
use Rattle.kv_trie.proofs.remove.look.Goals as goal
use Rattle.kv_trie.proofs.remove.look.Goals.{in-Empty, in-Leaf+else-is_some}

pub returns-then-is_some : goal.returns-then-is_some
returns-then-is_some g c =
    let some = sym c.is_some.ensures ∙ c.if-is_some.true in
    one_more c.args.children.now c.loop-at.only c.loop-at.at c.index-children-at.result _ _ c.loop-at.invariant c.loop-at-test.true (sym c.index-children-at.is ∙ c.in-Leaf.is) (shape_of-Leaf c.in-Leaf.field-0) (λ rest n. let bad = sym (ap is_some n) ∙ some in cc)

pub returns-in-Few : goal.returns-in-Few
returns-in-Few g c =
    one_more c.args.children.now c.loop-at.only c.loop-at.at c.index-children-at.result _ _ c.loop-at.invariant c.loop-at-test.true (sym c.index-children-at.is ∙ c.in-Few.is) (shape_of-Few c.in-Few.field-0) (λ rest n. refl)

pub returns-in-Branch : goal.returns-in-Branch
returns-in-Branch g c =
    one_more c.args.children.now c.loop-at.only c.loop-at.at c.index-children-at.result _ _ c.loop-at.invariant c.loop-at-test.true (sym c.index-children-at.is ∙ c.in-Branch.is) (shape_of-Branch c.in-Branch.field-0) (λ rest n. refl)

pub returns-in-List : goal.returns-in-List
returns-in-List g c =
    one_more c.args.children.now c.loop-at.only c.loop-at.at c.index-children-at.result _ _ c.loop-at.invariant c.loop-at-test.true (sym c.index-children-at.is ∙ c.in-List.is) (shape_of-List c.in-List.field-0) (λ rest n. refl)

pub loop-at-preserved : goal.loop-at-preserved
loop-at-preserved g c =
    let children = c.args.children.now in
    let within : c.loop-at.at < length children = c.loop-at-test.true in
    let mapped : c.loop-at.at < length (map shape_of children) = omega (arith, within, length-map children shape_of) in
    elim c.match-child.branch [
      | in-Empty w ↦
          let e = stands children c.loop-at.at c.index-children-at.result _ _ within (sym c.index-children-at.is ∙ w.in-Empty.is) (shape_of-Empty refl) in
          rw w.only-is (only_missing (map shape_of children) c.loop-at.only c.loop-at.at c.loop-at.invariant mapped e)
      | in-Leaf+else-is_some w ↦
          let e = stands children c.loop-at.at c.index-children-at.result _ _ within (sym c.index-children-at.is ∙ w.in-Leaf.is) (shape_of-Leaf w.in-Leaf.field-0) in
          rw w.only-is (only_leaf (map shape_of children) c.loop-at.only c.loop-at.at _ (sym w.is_some.ensures ∙ w.if-is_some.false) c.loop-at.invariant mapped e)
    ]
