use Rattle.std.proofs.Common.{◌-◌, length, refl, ap, ◌∙◌, arith}
use Rattle.std.proofs.lemmas.List.{length-map}
use Rattle.std.proofs.lemmas.Result.{on_ok_weaker}
use Rattle.std.specs.Arc.{arc_value}
use Rattle.kv_trie.specs.Form.{node_pairs, child_at}
use Rattle.kv_trie.specs.Retain.{is_wanted, slots_so_far}
use Rattle.kv_trie.specs.Stored.{shape_of}
use Rattle.kv_trie.specs.inside.Few.{has_slots, slots_of}
use Rattle.kv_trie.proofs.Branches.{branch_of}
use Rattle.kv_trie.proofs.Retaining.{partly_none, partly_whole, partly_changed, partly_count, child_is_form, child_count, branch_left, whole_left, all_left}
use Rattle.kv_trie.proofs.Sameness.{branch_is}
use Rattle.kv_trie.proofs.Spots.{forms_rise}
use Rattle.kv_trie.proofs.Stored.{shape_of-Few, shape_of-Branch, shape_of-List}
use Rattle.kv_trie.proofs.retain.+retain.Goals as goal
use Rattle.kv_trie.proofs.retain.+retain.Goals.{retain_below-in-Some+in_ok-changed-in-Some, retain_below-in-None}

pub retain_at-retain-requires : goal.retain_at-retain-requires
retain_at-retain-requires g t c κs within =
    (omega (arith, c.requires.some, c.decreases), (within.0, (within.1.0, (within.1.1, (omega (arith, c.requires.levels), (rw (← c.in-Some.ensures) c.requires.form, rw (← c.in-Some.ensures) c.requires.count))))))

pub retain_at-returns-in-Some-clause-retained : goal.retain_at-returns-in-Some-clause-retained
retain_at-returns-in-Some-clause-retained g t c = rw c.in-Some.ensures c.retain.ensures.retained

pub retain_at-returns-in-Some-clause-count : goal.retain_at-returns-in-Some-clause-count
retain_at-returns-in-Some-clause-count g t c = rw c.in-Some.ensures c.retain.ensures.count

pub retain_at-returns-in-None-clause-retained : goal.retain_at-returns-in-None-clause-retained
retain_at-returns-in-None-clause-retained g t c =
    rw c.in-None.ensures (all_left g.K.Ord.cmp g.K.Place.place_of (is_wanted (g.W.Wants.wanted c.args.wants.now)) (c.args.left - 1) _ tt)

pub retain_at-returns-in-None-clause-count : goal.retain_at-returns-in-None-clause-count
retain_at-returns-in-None-clause-count g t c = rw c.in-None.ensures refl

pub retain_below-loop-index-init : goal.retain_below-loop-index-init
retain_below-loop-index-init g t c =
    let slots = slots_of (shape_of c.args.branch.now) in
    let b = branch_of g.K.Ord.cmp g.K.Place.place_of {node = c.args.branch.now} c.args.left slots (branch_is _ c.requires.branch) c.requires.form in
    partly_none g.K.Ord.cmp g.K.Place.place_of (is_wanted (g.W.Wants.wanted c.args.wants.now)) (c.args.left - 1) c.args.gone.now slots b.forms

pub retain_below-retain_at-requires : goal.retain_below-retain_at-requires
retain_below-retain_at-requires g t c κs within =
    let cmp = g.K.Ord.cmp in
    let place = g.K.Place.place_of in
    let keep = is_wanted (g.W.Wants.wanted c.args.wants.now) in
    let left = c.args.left - 1 in
    let slots = slots_of (shape_of c.args.branch.now) in
    let b = branch_of cmp place {node = c.args.branch.now} c.args.left slots (branch_is _ c.requires.branch) c.requires.form in
    let i = c.loop-index.index in
    let f = child_is_form cmp place keep left i c.args.gone.now c.loop-index.gone slots _ c.loop-index.invariant (child_at i slots) refl in
    let n = child_count cmp place keep left i c.args.gone.now c.loop-index.gone slots _ c.loop-index.invariant (child_at i slots) refl in
    (omega (arith, c.decreases), (within.0, (within.1.0, (within.1.1, (c.requires.levels, (b.levels, (c.loop-index-test.true, (f, omega (arith, n, ap length b.pairs, c.requires.count)))))))))

pub retain_below-changed-requires : goal.retain_below-changed-requires
retain_below-changed-requires g t c =
    let slots = slots_of (shape_of c.args.branch.now) in
    let b = branch_of g.K.Ord.cmp g.K.Place.place_of {node = c.args.branch.now} c.args.left slots (branch_is _ c.requires.branch) c.requires.form in
    (omega arith, (c.loop-index-test.true, forms_rise g.K.Ord.cmp g.K.Place.place_of (c.args.left - 1) 0 slots b.forms))

pub retain_below-loop-index-preserved : goal.retain_below-loop-index-preserved
retain_below-loop-index-preserved g t c =
    let cmp = g.K.Ord.cmp in
    let place = g.K.Place.place_of in
    let keep = is_wanted (g.W.Wants.wanted c.args.wants.now) in
    let left = c.args.left - 1 in
    let slots = slots_of (shape_of c.args.branch.now) in
    let i = c.loop-index.index in
    let so_far = slots_so_far c.loop-index.rest slots in
    elim c.match-branch-2.branch [
      | retain_below-in-Some+in_ok-changed-in-Some w ↦
          let r = rw w.in-Some.is at c.in_ok-new.ensures.retained in
          rw (w.rest-is, w.in_ok-changed-in-Some.ensures) (partly_changed cmp place keep left i c.args.gone.now c.loop-index.gone slots so_far c.loop-index.invariant (child_at i slots) (shape_of w.in-Some.new) c.retain_at.new.gone refl r.form r.kept c.in_ok-new.ensures.count)
      | retain_below-in-None w ↦
          let r = rw w.in-None.is at c.in_ok-new.ensures.retained in
          rw w.rest-is (partly_whole cmp place keep left i c.args.gone.now c.loop-index.gone slots so_far c.loop-index.invariant (child_at i slots) c.retain_at.new.gone refl r.kept c.in_ok-new.ensures.count)
    ]

pub retain_below-returns-in_ok-node_of_children-in-Some-rest-clause-retained :
    goal.retain_below-returns-in_ok-node_of_children-in-Some-rest-clause-retained
retain_below-returns-in_ok-node_of_children-in-Some-rest-clause-retained g t c =
    let slots = slots_of (shape_of c.args.branch.now) in
    let b = branch_of g.K.Ord.cmp g.K.Place.place_of {node = c.args.branch.now} c.args.left slots (branch_is _ c.requires.branch) c.requires.form in
    let p = rw c.in-Some-rest.is at c.loop-index.invariant in
    rw b.pairs (branch_left g.K.Ord.cmp g.K.Place.place_of (is_wanted (g.W.Wants.wanted c.args.wants.now)) c.args.left c.loop-index.index c.args.gone.now c.loop-index.gone _ _ c.in_ok-node_of_children-in-Some-rest.field-0 b.levels c.loop-index-test.false p c.in_ok-node_of_children-in-Some-rest.ensures)

pub retain_below-returns-in_ok-node_of_children-in-Some-rest-clause-count :
    goal.retain_below-returns-in_ok-node_of_children-in-Some-rest-clause-count
retain_below-returns-in_ok-node_of_children-in-Some-rest-clause-count g t c =
    let slots = slots_of (shape_of c.args.branch.now) in
    let b = branch_of g.K.Ord.cmp g.K.Place.place_of {node = c.args.branch.now} c.args.left slots (branch_is _ c.requires.branch) c.requires.form in
    rw b.pairs (partly_count g.K.Ord.cmp g.K.Place.place_of (is_wanted (g.W.Wants.wanted c.args.wants.now)) (c.args.left - 1) c.loop-index.index c.args.gone.now c.loop-index.gone _ _ c.loop-index-test.false c.loop-index.invariant)

pub retain_below-returns-in-None-rest-clause-retained :
    goal.retain_below-returns-in-None-rest-clause-retained
retain_below-returns-in-None-rest-clause-retained g t c =
    let slots = slots_of (shape_of c.args.branch.now) in
    let b = branch_of g.K.Ord.cmp g.K.Place.place_of {node = c.args.branch.now} c.args.left slots (branch_is _ c.requires.branch) c.requires.form in
    let p = rw c.in-None-rest.is at c.loop-index.invariant in
    rw b.pairs (whole_left g.K.Ord.cmp g.K.Place.place_of (is_wanted (g.W.Wants.wanted c.args.wants.now)) c.args.left c.loop-index.index c.args.gone.now c.loop-index.gone _ c.loop-index-test.false p)

pub retain_below-returns-in-None-rest-clause-count :
    goal.retain_below-returns-in-None-rest-clause-count
retain_below-returns-in-None-rest-clause-count g t c =
    let slots = slots_of (shape_of c.args.branch.now) in
    let b = branch_of g.K.Ord.cmp g.K.Place.place_of {node = c.args.branch.now} c.args.left slots (branch_is _ c.requires.branch) c.requires.form in
    rw b.pairs (partly_count g.K.Ord.cmp g.K.Place.place_of (is_wanted (g.W.Wants.wanted c.args.wants.now)) (c.args.left - 1) c.loop-index.index c.args.gone.now c.loop-index.gone _ _ c.loop-index-test.false c.loop-index.invariant)

pub retain-retain_below-requires : goal.retain-retain_below-requires
retain-retain_below-requires g t c κs within =
    (omega (arith, c.decreases), (within.0, (within.1.0, (within.1.1, (c.requires.levels, (c.requires.form, (ap has_slots (ap shape_of c.in-Few.is ∙ shape_of-Few c.in-Few.field-0), c.requires.count)))))))

pub retain-retain_below-requires-in-Branch : goal.retain-retain_below-requires-in-Branch
retain-retain_below-requires-in-Branch g t c κs within =
    (omega (arith, c.decreases), (within.0, (within.1.0, (within.1.1, (c.requires.levels, (c.requires.form, (ap has_slots (ap shape_of c.in-Branch.is ∙ shape_of-Branch c.in-Branch.field-0), c.requires.count)))))))

pub retain-retain_listed-requires-clause-count : goal.retain-retain_listed-requires-clause-count
retain-retain_listed-requires-clause-count g t c =
    let pairs = ap node_pairs (ap shape_of c.in-List.is ∙ shape_of-List c.in-List.pairs) in
    omega (arith, ap length pairs, length-map (arc_value c.in-List.pairs).items arc_value, ap (λ v. length v.items) c.deref-in-List.ensures, c.requires.count)

pub retain-returns-in-List-clause-count : goal.retain-returns-in-List-clause-count
retain-returns-in-List-clause-count g t c =
    let pairs = ap node_pairs (ap shape_of c.in-List.is ∙ shape_of-List c.in-List.pairs) in
    let n = length-map (arc_value c.in-List.pairs).items arc_value in
    rw pairs (on_ok_weaker c.retain_listed.result (λ count. omega (arith, count, n)) (rw c.deref-in-List.ensures at c.retain_listed.ensures.count))
