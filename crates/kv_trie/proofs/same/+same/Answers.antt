use Rattle.std.proofs.Common.{◌-◌, Some, refl, sym, ap, ◌∙◌, arith}
use Rattle.kv_trie.specs.Form.{branch, child_at}
use Rattle.kv_trie.specs.Same.{same_key, same_node}
use Rattle.kv_trie.specs.Stored.{shape_of}
use Rattle.kv_trie.specs.inside.Few.{slots_of}
use Rattle.kv_trie.proofs.Branches.{child_form}
use Rattle.kv_trie.proofs.Sameness.{all_same, one_differs, branch_is}
use Rattle.kv_trie.proofs.Spots.{forms_rise}
use Rattle.kv_trie.proofs.same.+same.Goals as goal

pub same_below-same_at-requires : goal.same_below-same_at-requires
same_below-same_at-requires g t c κs within =
    let cmp = g.K.Ord.cmp in
    let place = g.K.Place.place_of in
    let s = slots_of (shape_of c.args.node.now) in
    let t = slots_of (shape_of c.args.other.now) in
    let first = child_form cmp place (c.args.left - 1) c.loop-at.at s (child_at c.loop-at.at s) c.requires.form refl in
    let second = child_form cmp place (c.args.left - 1) c.loop-at.at t (child_at c.loop-at.at t) c.requires.other refl in
    (omega (arith, c.decreases), (within.0, (within.1, (c.requires.levels, (c.requires.some, (c.loop-at-test.true, (first.0, second.0)))))))

pub same_below-returns-then-not-same_at : goal.same_below-returns-then-not-same_at
same_below-returns-then-not-same_at g t c =
    let cmp = g.K.Ord.cmp in
    let place = g.K.Place.place_of in
    let s = slots_of (shape_of c.args.node.now) in
    let t = slots_of (shape_of c.args.other.now) in
    let other = branch_is (shape_of c.args.other.now) (sym c.is_branch.ensures ∙ c.if-not-is_branch.false) in
    let d = one_differs (same_key cmp) c.loop-at.at 0 s t (forms_rise cmp place (c.args.left - 1) 0 s c.requires.form) (forms_rise cmp place (c.args.left - 1) 0 t c.requires.other) (sym c.same_at.ensures ∙ c.if-not-same_at.true) in
    sym (ap (same_node (same_key cmp) (Some (branch s))) other ∙ d)

pub same_below-returns : goal.same_below-returns
same_below-returns g t c =
    let cmp = g.K.Ord.cmp in
    let place = g.K.Place.place_of in
    let s = slots_of (shape_of c.args.node.now) in
    let t = slots_of (shape_of c.args.other.now) in
    let other = branch_is (shape_of c.args.other.now) (sym c.is_branch.ensures ∙ c.if-not-is_branch.false) in
    let a = all_same (same_key cmp) 0 s t (forms_rise cmp place (c.args.left - 1) 0 s c.requires.form) (forms_rise cmp place (c.args.left - 1) 0 t c.requires.other) (λ j l m. c.loop-at.invariant j (omega (arith, m, c.loop-at-test.false))) in
    sym (ap (same_node (same_key cmp) (Some (branch s))) other ∙ a)
