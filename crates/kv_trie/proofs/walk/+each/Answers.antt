use Rattle.std.proofs.Common.{◌<◌, ◌≤◌, length, sym, ap, ◌∙◌, refl, subst, arith}
use Rattle.std.specs.Arc.{arc_value}
use Rattle.std.specs.List.{flat_map}
use Rattle.kv_trie.specs.Form.{node_pairs}
use Rattle.kv_trie.specs.Shown.{Shown, WasRefused, Goes}
use Rattle.kv_trie.specs.Stored.{shape_of}
use Rattle.kv_trie.proofs.Stored.{shape_of-Leaf}
use Rattle.kv_trie.proofs.Showing.{Shown-part, Refused-part, Shown-all, Goes-one, branch_pairs, few_pairs}
use Rattle.kv_trie.proofs.walk.+each.Goals as goal

pub returns-in-Err : goal.returns-in-Err
returns-in-Err g t c =
    let children = c.deref-children.result.now.value in
    let within : c.loop-child.child-index < length children = omega arith in
    let h = rw (← c.child-item.is) at c.in-Err.ensures in
    let r = Refused-part g.W.Visit.shows (λ n. node_pairs (shape_of n)) children c.loop-child.child-index c.child-item.result within c.child-item.is c.in-Err.refusal c.args.visitor.now c.loop-child.visitor c.each.new.visitor c.loop-child.invariant.1 h in
    let same = ap (λ a. flat_map (λ n. node_pairs (shape_of n)) a.value) c.deref-children.ensures ∙ sym (branch_pairs c.in-Branch.children c.in-Branch.is) in
    subst (λ l. WasRefused g.W.Visit.shows c.in-Err.refusal l c.args.visitor.now c.each.new.visitor) same r

pub loop-child-preserved : goal.loop-child-preserved
loop-child-preserved g t c =
    let children = c.deref-children.result.now.value in
    let within : c.loop-child.child-index < length children = omega arith in
    let h = rw (← c.child-item.is) at c.in-Ok.ensures in
    ((λ _. c.type_inv.child-items), Shown-part g.W.Visit.shows (λ n. node_pairs (shape_of n)) children c.loop-child.child-index c.child-item.result within c.child-item.is c.args.visitor.now c.loop-child.visitor c.each.new.visitor c.loop-child.invariant.1 h)

pub returns-after-loop-child : goal.returns-after-loop-child
returns-after-loop-child g t c =
    let children = c.deref-children.result.now.value in
    let all : length children ≤ c.loop-child.child-index = omega (arith, c.loop-child.invariant.0 (omega arith)) in
    let same = ap (λ a. flat_map (λ n. node_pairs (shape_of n)) a.value) c.deref-children.ensures ∙ sym (branch_pairs c.in-Branch.children c.in-Branch.is) in
    subst (λ l. Shown g.W.Visit.shows l c.args.visitor.now c.loop-child.visitor) same
    (Shown-all g.W.Visit.shows (λ n. node_pairs (shape_of n)) children c.loop-child.child-index c.args.visitor.now c.loop-child.visitor all c.loop-child.invariant.1)

pub returns-in-Leaf : goal.returns-in-Leaf
returns-in-Leaf g t c =
    let s = ap node_pairs (ap shape_of c.in-Leaf.is ∙ shape_of-Leaf c.in-Leaf.pair) in
    let p = Goes-one g.W.Visit.shows (arc_value c.in-Leaf.pair) c.pair.result c.args.visitor.now c.pair.new.self (rw (c.deref.ensures, c.deref-in-Leaf.ensures) at c.pair.ensures) in
    subst (λ l. Goes g.W.Visit.shows l c.args.visitor.now c.pair.result c.pair.new.self) (sym s) p

pub loop-child-init : goal.loop-child-init
loop-child-init g t c = ((λ n. absurd (omega arith)), refl)

pub returns-in-Err-each : goal.returns-in-Err-each
returns-in-Err-each g t c =
    let few = c.deref-few.result.now in
    let within : c.loop-child-2.child-index < length few.children = omega arith in
    let counts : length few.children ≤ length few.indices = omega (arith, c.index_count.ensures.all, c.index_count.ensures.four) in
    let h = rw (← c.child-item-in-loop-child-2.is) at c.in-Err-each.ensures in
    let r = Refused-part g.W.Visit.shows (λ n. node_pairs (shape_of n)) few.children c.loop-child-2.child-index c.child-item-in-loop-child-2.result within c.child-item-in-loop-child-2.is c.in-Err-each.refused c.args.visitor.now c.loop-child-2.visitor c.each-in-loop-child-2.new.visitor c.loop-child-2.invariant.1 h in
    subst (λ l. WasRefused g.W.Visit.shows c.in-Err-each.refused l c.args.visitor.now c.each-in-loop-child-2.new.visitor) (sym (few_pairs c.in-Few.few few c.in-Few.is c.deref-few.ensures counts)) r

pub loop-child-2-preserved : goal.loop-child-2-preserved
loop-child-2-preserved g t c =
    let few = c.deref-few.result.now in
    let within : c.loop-child-2.child-index < length few.children = omega arith in
    let h = rw (← c.child-item-in-loop-child-2.is) at c.in-Ok-each.ensures in
    ((λ _. c.type_inv.child-items), Shown-part g.W.Visit.shows (λ n. node_pairs (shape_of n)) few.children c.loop-child-2.child-index c.child-item-in-loop-child-2.result within c.child-item-in-loop-child-2.is c.args.visitor.now c.loop-child-2.visitor c.each-in-loop-child-2.new.visitor c.loop-child-2.invariant.1 h)

pub returns-after-loop-child-2 : goal.returns-after-loop-child-2
returns-after-loop-child-2 g t c =
    let few = c.deref-few.result.now in
    let four = c.loop-child-2.invariant.0 (omega arith) in
    let all : length few.children ≤ c.loop-child-2.child-index = omega (arith, four) in
    let counts : length few.children ≤ length few.indices = omega (arith, c.index_count.ensures.all, c.index_count.ensures.four) in
    subst (λ l. Shown g.W.Visit.shows l c.args.visitor.now c.loop-child-2.visitor) (sym (few_pairs c.in-Few.few few c.in-Few.is c.deref-few.ensures counts))
    (Shown-all g.W.Visit.shows (λ n. node_pairs (shape_of n)) few.children c.loop-child-2.child-index c.args.visitor.now c.loop-child-2.visitor all c.loop-child-2.invariant.1)

pub loop-child-2-init : goal.loop-child-2-init
loop-child-2-init g t c = ((λ n. absurd (omega arith)), refl)
