use Rattle.std.proofs.Common.{◌≤◌, ◌++◌, length, ap, sym, ◌∙◌, arith}
use Rattle.std.specs.List.{flat_map}
use Rattle.std.proofs.lemmas.List.{take_all}
use Rattle.kv_trie.specs.Form.{node_pairs}
use Rattle.kv_trie.specs.Numbered.{lent, numbered_pair}
use Rattle.kv_trie.specs.Stored.{shape_of}
use Rattle.kv_trie.proofs.Showing.{branch_pairs, few_pairs}
use Rattle.kv_trie.proofs.walk.+add_numbered.Goals as goal

pub returns-after-loop-child : goal.returns-after-loop-child
returns-after-loop-child g t c =
    let children = c.deref-children.result.now.value in
    let all : length children ≤ c.loop-child.child-index = omega (arith, c.loop-child.invariant.0 (omega arith)) in
    let same = ap (λ a. flat_map (λ n. node_pairs (shape_of n)) a.value) c.deref-children.ensures ∙ sym (branch_pairs c.in-Branch.children c.in-Branch.is) in
    c.loop-child.invariant.1
    ∙ ap (λ l. lent c.args.found.now.items ++ flat_map (numbered_pair (g.A.Numbers.number c.args.asker.now)) l) (ap (flat_map (λ n. node_pairs (shape_of n))) (take_all c.loop-child.child-index children all) ∙ same)

pub returns-after-loop-child-2 : goal.returns-after-loop-child-2
returns-after-loop-child-2 g t c =
    let few = c.deref-few.result.now in
    let all : length few.children ≤ c.loop-child-2.child-index = omega (arith, c.loop-child-2.invariant.0 (omega arith)) in
    let counts : length few.children ≤ length few.indices = omega (arith, c.index_count.ensures.all, c.index_count.ensures.four, c.loop-child-2.invariant.0 (omega arith)) in
    c.loop-child-2.invariant.1
    ∙ ap (λ l. lent c.args.found.now.items ++ flat_map (numbered_pair (g.A.Numbers.number c.args.asker.now)) l) (ap (flat_map (λ n. node_pairs (shape_of n))) (take_all c.loop-child-2.child-index few.children all) ∙ sym (few_pairs c.in-Few.few few c.in-Few.is c.deref-few.ensures counts))
