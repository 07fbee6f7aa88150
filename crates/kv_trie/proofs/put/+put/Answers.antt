use Rattle.std.proofs.Common.{rules, ◌≡◌, ◌-◌, ◌<◌, length, map, subst, get_or, Some, None, refl, sym, ap, ◌∙◌, arith}
use Rattle.std.proofs.lemmas.Result.{on_ok_weaker, on_err_weaker}
use Rattle.std.specs.Arc.{arc_value}
use Rattle.std.specs.Result.{IsOk, OnOk, OnErr}
use Rattle.std.proofs.Math.ListN.{set}
use Rattle.std.proofs.Math.Seq.{map-set_same}
use Rattle.std.proofs.lemmas.List.{map-set, get_or-map}
use Rattle.std.specs.BTreeMap.{is_at}
use Rattle.std.specs.Map.{lookup}
use Rattle.kv_trie.specs.declared.node.Node.TheVariants.{Leaf, Few as Small, Branch, List as Row}
use Rattle.kv_trie.specs.declared.node.Node.TheViews.{the_lemmas}
use Rattle.kv_trie.specs.inside.Change.{IsFormWith, AreFormsWith}
use Rattle.kv_trie.specs.Form.{AreForms, leaf, branch, row, order, node_pairs, pairs_in, child_at, with_or_without, index_of}
use Rattle.kv_trie.specs.Stored.{shape_of, slots_from, slots_at, child_slots, few_slots}
use Rattle.kv_trie.proofs.Branches.{is_branch, is_few, lookup-slots, child_is, child_form, lookup-children, slots_with}
use Rattle.kv_trie.proofs.Changes.{form_with, forms_with, leaf_for, two_with, list_with, equal_from_is_eq, alone_forms}
use Rattle.kv_trie.proofs.Clones.{kept_children, kept_few, copied_few}
use Rattle.kv_trie.specs.inside.Few.{HasRoom}
use Rattle.kv_trie.proofs.Spots.{forms_rise, spot_child, spot_set}
use Rattle.kv_trie.proofs.Form.{length-put_pair}
use Rattle.kv_trie.proofs.Stored.{shape_of-Branch, shape_of-Few, shape_of-Leaf, shape_of-List}
use Rattle.kv_trie.proofs.put.+put.Goals as goal

pub put-returns-in-Branch-clause-form : goal.put-returns-in-Branch-clause-form
put-returns-in-Branch-clause-form g t c =
    let cmp = g.K.Ord.cmp in
    let place = g.K.Place.place_of in
    let left = c.args.left in
    let pair = c.args.pending.now.pair in
    let b = is_branch cmp place left c.in-Branch.children c.in-Branch.is c.requires.form in
    let n = length-put_pair (order cmp place left) pair (pairs_in (child_slots (arc_value c.in-Branch.children).value)) in
    let made : OnOk c.put_in_branch.result (IsFormWith cmp place left pair (node_pairs (shape_of c.args.node.now)) (Branch c.put_in_branch.new.children)) =
    rw b.pairs (on_ok_weaker c.put_in_branch.result (λ with. form_with cmp place b.levels (omega (arith, n, b.two)) (record { slots = _; shape = shape_of-Branch c.put_in_branch.new.children; with = with })) (rw c.in-Branch.children-is at c.put_in_branch.ensures.branch))
    in
    search (rules, the_lemmas)

pub put-returns-in-List-clause-form : goal.put-returns-in-List-clause-form
put-returns-in-List-clause-form g t c =
    let made : OnOk c.put_in_shared.result (IsFormWith g.K.Ord.cmp g.K.Place.place_of c.args.left c.args.pending.now.pair (node_pairs (shape_of c.args.node.now)) (Row c.put_in_shared.new.list)) =
    on_ok_weaker c.put_in_shared.result (λ made. list_with g.K.Ord.cmp g.K.Place.place_of g.met.K.Ord.total c.args.left c.args.pending.now.pair c.in-List.pairs c.in-List.is c.requires.form (rw made at (shape_of-List c.put_in_shared.new.list))) (rw c.in-List.pairs-is at c.put_in_shared.ensures.pairs)
    in
    search (rules, the_lemmas)

pub put-returns-in_ok-replace-in-Leaf-clause-form : goal.put-returns-in_ok-replace-in-Leaf-clause-form
put-returns-in_ok-replace-in-Leaf-clause-form g t c =
    let old = c.in-Leaf.old in
    let olds = ap (λ n. node_pairs (shape_of n)) c.in-Leaf.is ∙ ap node_pairs (shape_of-Leaf old) in
    let compared = rw (c.key.ensures, c.deref.ensures, c.in-Leaf.old-is) at c.cmp.ensures in
    let equal = sym compared ∙ equal_from_is_eq c.cmp.result (sym c.if-found.ensures) in
    let made : IsFormWith g.K.Ord.cmp g.K.Place.place_of c.args.left c.args.pending.now.pair (node_pairs (shape_of c.args.node.now)) (Leaf c.replace.new.old) =
    rw olds (leaf_for g.K.Ord.cmp g.K.Place.place_of g.met.K.Place.respects_equal c.args.left c.args.pending.now.pair (arc_value old) c.replace.new.old c.in_ok-replace-in-Leaf.ensures.put equal)
    in
    search (rules, the_lemmas)

pub put-returns-in_err-replace-in-Leaf-clause-unchanged : goal.put-returns-in_err-replace-in-Leaf-clause-unchanged
put-returns-in_err-replace-in-Leaf-clause-unchanged g t c =
    let old = ap shape_of c.in-Leaf.is ∙ shape_of-Leaf c.in-Leaf.old in
    let same : shape_of (Leaf c.replace.new.old) ≡ shape_of c.args.node.now =
    shape_of-Leaf c.replace.new.old ∙ ap (λ p. Some (leaf p)) (rw c.in-Leaf.old-is at c.in_err-replace-in-Leaf.ensures.unchanged) ∙ sym old
    in
    search (rules, the_lemmas)

pub put_below-put-requires : goal.put_below-put-requires
put_below-put-requires g t c κs within =
    let cmp = g.K.Ord.cmp in
    let place = g.K.Place.place_of in
    let i : c.index-at.result < length c.args.children.now = omega (arith, c.index-at.ensures.small) in
    let e = child_is c.index-at.result c.args.children.now i c.index-children-at.result c.index-children-at.is in
    let f = child_form cmp place (c.args.left - 1) c.index-at.result _ _ c.requires.forms e in
    (omega (arith, c.requires.some, c.decreases), (within.0, (within.1.0, (within.1.1, (omega (arith, c.requires.levels), (rw (← c.index-children-at.is) f.0, (c.requires.place, (c.requires.there, c.requires.ready))))))))

pub put_below-returns-clause-branch : goal.put_below-returns-clause-branch
put_below-returns-clause-branch g t c =
    let cmp = g.K.Ord.cmp in
    let place = g.K.Place.place_of in
    let i : c.index-at.result < length c.args.children.now = omega (arith, c.index-at.ensures.small) in
    let e = child_is c.index-at.result c.args.children.now i c.index-children-at.result c.index-children-at.is in
    let put = slots_with c.index-at.result c.args.children.now i c.put.new.node in
    let made : OnOk c.put.result (AreFormsWith cmp place c.args.left c.args.pending.now.pair (pairs_in (child_slots c.args.children.now)) (child_slots (set c.args.children.now c.index-at.result c.put.new.node))) =
    rw put (on_ok_weaker c.put.result (λ new. forms_with cmp place c.args.left c.index-at.result (child_slots c.args.children.now) c.args.pending.now.pair c.put.new.node c.requires.some c.requires.forms (c.index-at.ensures.value ∙ ap (index_of (c.args.left - 1)) c.requires.place) (rw e new)) (rw (← c.index-children-at.is) at c.put.ensures.form))
    in
    search (rules, the_lemmas)

pub put_below-returns-clause-unchanged : goal.put_below-returns-clause-unchanged
put_below-returns-clause-unchanged g t c =
    let i : c.index-at.result < length c.args.children.now = omega (arith, c.index-at.ensures.small) in
    let same : OnErr c.put.result (child_slots (set c.args.children.now c.index-at.result c.put.new.node) ≡ child_slots c.args.children.now) =
    on_err_weaker c.put.result (λ same. ap (slots_from 0) (map-set_same shape_of c.args.children.now c.index-at.result c.put.new.node c.index-children-at.result same)) c.put.ensures.unchanged
    in
    search (rules, the_lemmas)

pub put_below-returns-clause-found : goal.put_below-returns-clause-found
put_below-returns-clause-found g t c =
    let below = c.args.left - 1 in
    let i : c.index-at.result < length c.args.children.now = omega (arith, c.index-at.ensures.small) in
    let at = c.index-at.ensures.value ∙ ap (index_of below) c.requires.place in
    let looked = lookup-children g.K.Ord.cmp g.K.Place.place_of g.met.K.Place.respects_equal c.args.left c.args.children.now c.requires.forms c.args.pending.now.pair.0 c.index-at.result c.index-children-at.result at i c.index-children-at.is in
    rw looked (rw (← c.index-children-at.is) at c.put.ensures.found)

pub put_in_branch-returns-in_err-own-clause-unchanged : goal.put_in_branch-returns-in_err-own-clause-unchanged
put_in_branch-returns-in_err-own-clause-unchanged g t c =
    let same = kept_children (arc_value c.unshare.new.branch) (arc_value c.make_mut.follows.lender-at-none) (rw c.in_err-own.was at c.make_mut.follows.holds-at-none) ∙ c.unshare.ensures in
    search (rules, same)

pub put_in_branch-put_below-requires : goal.put_in_branch-put_below-requires
put_in_branch-put_below-requires g t c κs within =
    let same = kept_children (arc_value c.unshare.new.branch) c.in_ok-own.own.now c.in_ok-own.ensures.value ∙ c.unshare.ensures in
    (omega (arith, c.decreases), (within.0, (within.1.0, (within.1.1, (omega arith, (c.requires.levels, (c.requires.some, (rw same c.requires.forms, (c.requires.place, (c.requires.there, c.requires.ready))))))))))

pub put_in_branch-returns-clause-branch : goal.put_in_branch-returns-clause-branch
put_in_branch-returns-clause-branch g t c =
    let same = kept_children (arc_value c.unshare.new.branch) c.in_ok-own.own.now c.in_ok-own.ensures.value ∙ c.unshare.ensures in
    let ok : IsOk c.make_mut.result = rw c.in_ok-own.was refl in
    rw (c.make_mut.follows.holds (record c.in_ok-own.own.now { value = c.put_below.new.children }) ok, ← same) c.put_below.ensures.branch

pub put_in_branch-returns-clause-found : goal.put_in_branch-returns-clause-found
put_in_branch-returns-clause-found g t c =
    let same = kept_children (arc_value c.unshare.new.branch) c.in_ok-own.own.now c.in_ok-own.ensures.value ∙ c.unshare.ensures in
    rw (← same) c.put_below.ensures.found

pub put_in_branch-returns-clause-unchanged : goal.put_in_branch-returns-clause-unchanged
put_in_branch-returns-clause-unchanged g t c =
    let same = kept_children (arc_value c.unshare.new.branch) c.in_ok-own.own.now c.in_ok-own.ensures.value ∙ c.unshare.ensures in
    let ok : IsOk c.make_mut.result = rw c.in_ok-own.was refl in
    rw (c.make_mut.follows.holds (record c.in_ok-own.own.now { value = c.put_below.new.children }) ok, ← same) c.put_below.ensures.unchanged

pub put_beside-put_in_few-requires : goal.put_beside-put_in_few-requires
put_beside-put_in_few-requires g t c κs within =
    let cmp = g.K.Ord.cmp in
    let place = g.K.Place.place_of in
    let below = c.args.left - 1 in
    let old = arc_value c.args.old.now in
    let at = c.index-at.ensures.value ∙ ap (index_of below) (rw c.deref.ensures at c.place.ensures) in
    let s : AreForms cmp place below 0 (few_slots (arc_value c.in_ok-branch.branch)) = rw (c.in_ok-branch.ensures.ok, c.alone.ensures.slots, c.in_ok-other.ensures) (alone_forms cmp place below c.index-at.result old at) in
    let room : HasRoom (arc_value c.in_ok-branch.branch) = rw c.in_ok-branch.ensures.ok c.alone.ensures.room in
    (omega (arith, c.decreases), (within.0, (within.1.0, (within.1.1, (omega arith, (c.requires.levels, (omega arith, (s, ((λ _. room), (c.requires.place, (c.requires.there, c.requires.ready)))))))))))

pub put_beside-returns-clause-form : goal.put_beside-returns-clause-form
put_beside-returns-clause-form g t c =
    let cmp = g.K.Ord.cmp in
    let place = g.K.Place.place_of in
    let left = c.args.left in
    let pair = c.args.pending.now.pair in
    let old = arc_value c.args.old.now in
    let with = rw (c.in_ok-branch.ensures.ok, c.alone.ensures.slots, c.in_ok-other.ensures) at c.in_ok-put_in_few.ensures.branch in
    form_with cmp place (omega arith) (two_with cmp place left pair old c.requires.apart) (record { slots = _; shape = shape_of-Few c.put_in_few.new.few; with = with })

pub put-returns-in-Branch-clause-unchanged : goal.put-returns-in-Branch-clause-unchanged
put-returns-in-Branch-clause-unchanged g t c =
    let old = ap shape_of c.in-Branch.is ∙ shape_of-Branch c.in-Branch.children in
    let same : OnErr c.put_in_branch.result (shape_of (Branch c.put_in_branch.new.children) ≡ shape_of c.args.node.now) =
    on_err_weaker c.put_in_branch.result (λ same. shape_of-Branch c.put_in_branch.new.children ∙ ap (λ s. Some (branch s)) same ∙ sym old) (rw c.in-Branch.children-is at c.put_in_branch.ensures.unchanged)
    in
    search (rules, the_lemmas)

pub put-returns-in-List-clause-unchanged : goal.put-returns-in-List-clause-unchanged
put-returns-in-List-clause-unchanged g t c =
    let old = ap shape_of c.in-List.is ∙ shape_of-List c.in-List.pairs in
    let same : OnErr c.put_in_shared.result (shape_of (Row c.put_in_shared.new.list) ≡ shape_of c.args.node.now) =
    on_err_weaker c.put_in_shared.result (λ same. shape_of-List c.put_in_shared.new.list ∙ ap (λ s. Some (row s)) same ∙ sym old) (rw c.in-List.pairs-is at c.put_in_shared.ensures.unchanged)
    in
    search (rules, the_lemmas)

pub put-returns-then-has_room_at-clause-form : goal.put-returns-then-has_room_at-clause-form
put-returns-then-has_room_at-clause-form g t c =
    let cmp = g.K.Ord.cmp in
    let place = g.K.Place.place_of in
    let left = c.args.left in
    let pair = c.args.pending.now.pair in
    let b = is_few cmp place left c.in-Few.few c.in-Few.is c.requires.form in
    let n = length-put_pair (order cmp place left) pair (pairs_in (few_slots (arc_value c.in-Few.few))) in
    let made : OnOk c.put_in_few.result (IsFormWith cmp place left pair (node_pairs (shape_of c.args.node.now)) (Small c.put_in_few.new.few)) =
    rw b.pairs (on_ok_weaker c.put_in_few.result (λ with. form_with cmp place b.levels (omega (arith, n, b.two)) (record { slots = _; shape = shape_of-Few c.put_in_few.new.few; with = with })) (rw c.in-Few.few-is at c.put_in_few.ensures.branch))
    in
    search (rules, the_lemmas)

pub put-returns-then-has_room_at-clause-unchanged : goal.put-returns-then-has_room_at-clause-unchanged
put-returns-then-has_room_at-clause-unchanged g t c =
    let old = ap shape_of c.in-Few.is ∙ shape_of-Few c.in-Few.few in
    let same : OnErr c.put_in_few.result (shape_of (Small c.put_in_few.new.few) ≡ shape_of c.args.node.now) =
    on_err_weaker c.put_in_few.result (λ same. shape_of-Few c.put_in_few.new.few ∙ ap (λ s. Some (branch s)) same ∙ sym old) (rw c.in-Few.few-is at c.put_in_few.ensures.unchanged)
    in
    search (rules, the_lemmas)

pub put-put_in_few-requires : goal.put-put_in_few-requires
put-put_in_few-requires g t c κs within =
    let b = is_few g.K.Ord.cmp g.K.Place.place_of c.args.left c.in-Few.few c.in-Few.is c.requires.form in
    let room = rw (c.deref-in-Few.ensures, c.index.ensures.value, c.in-Few.few-is) at (c.has_room_at.ensures c.if-has_room_at.true) in
    (omega (arith, c.decreases), (within.0, (within.1.0, (within.1.1, (omega arith, (c.requires.levels, (b.levels, (rw c.in-Few.few-is b.forms, (rw c.in-Few.few-is room, (c.requires.place, (c.requires.there, c.requires.ready)))))))))))

pub put-put_widened-requires : goal.put-put_widened-requires
put-put_widened-requires g t c κs within =
    let b = is_few g.K.Ord.cmp g.K.Place.place_of c.args.left c.in-Few.few c.in-Few.is c.requires.form in
    (omega (arith, c.decreases), (within.0, (within.1.0, (within.1.1, (omega arith, (c.requires.levels, (b.levels, (rw c.in-Few.few-is b.forms, (c.requires.place, (c.requires.there, c.requires.ready))))))))))

pub put-returns-in_err-new-in-Few-clause-unchanged : goal.put-returns-in_err-new-in-Few-clause-unchanged
put-returns-in_err-new-in-Few-clause-unchanged g t c =
    let same : shape_of (Small c.in-Few.few) ≡ shape_of c.args.node.now = ap shape_of (sym c.in-Few.is) in
    search (rules, the_lemmas)

pub put-returns-in_ok-new-in-Few-clause-form : goal.put-returns-in_ok-new-in-Few-clause-form
put-returns-in_ok-new-in-Few-clause-form g t c =
    let cmp = g.K.Ord.cmp in
    let place = g.K.Place.place_of in
    let left = c.args.left in
    let pair = c.args.pending.now.pair in
    let b = is_few cmp place left c.in-Few.few c.in-Few.is c.requires.form in
    let n = length-put_pair (order cmp place left) pair (pairs_in (few_slots (arc_value c.in-Few.few))) in
    rw b.pairs (form_with cmp place b.levels (omega (arith, n, b.two)) (rw c.in-Few.few-is at c.in_ok-new-in-Few.ensures.branch))

pub put-returns-in_ok-new-in-Few-clause-found : goal.put-returns-in_ok-new-in-Few-clause-found
put-returns-in_ok-new-in-Few-clause-found g t c =
    let b = is_few g.K.Ord.cmp g.K.Place.place_of c.args.left c.in-Few.few c.in-Few.is c.requires.form in
    rw b.pairs (rw c.in-Few.few-is at c.in_ok-new-in-Few.ensures.found)

pub put_among-open-spot-requires : goal.put_among-open-spot-requires
put_among-open-spot-requires g t c =
    (omega arith, (c.index.ensures.small, (forms_rise g.K.Ord.cmp g.K.Place.place_of (c.args.left - 1) 0 (few_slots c.args.few.now) c.requires.forms, rw c.index.ensures.value c.requires.room)))

pub put_among-put-requires : goal.put_among-put-requires
put_among-put-requires g t c κs within =
    let cmp = g.K.Ord.cmp in
    let place = g.K.Place.place_of in
    let new = c.open-spot.new.few in
    let spot = c.open-spot.result in
    let i : spot < length new.children = omega (arith, c.open-spot.ensures.small) in
    let e = spot_child c.index.result spot new.indices (map shape_of new.children) None c.open-spot.ensures.spot ∙ get_or-map shape_of new.children spot c.index-few-spot.result None i in
    let f = child_form cmp place (c.args.left - 1) c.index.result (few_slots new) _ (subst (AreForms cmp place (c.args.left - 1) 0) (sym c.open-spot.ensures.slots) c.requires.forms) e in
    (omega (arith, c.requires.some, c.decreases), (within.0, (within.1.0, (within.1.1, (omega (arith, c.requires.levels), (f.0, (c.requires.place, (c.requires.there, c.requires.ready))))))))

pub put_among-returns-clause-branch : goal.put_among-returns-clause-branch
put_among-returns-clause-branch g t c =
    let cmp = g.K.Ord.cmp in
    let place = g.K.Place.place_of in
    let old = few_slots c.args.few.now in
    let pair = c.args.pending.now.pair in
    let new = c.open-spot.new.few in
    let spot = c.open-spot.result in
    let at = c.index.result in
    let node = c.put.new.node in
    let i : spot < length new.children = omega (arith, c.open-spot.ensures.small) in
    let e = ap (child_at at) (sym c.open-spot.ensures.slots) ∙ spot_child at spot new.indices (map shape_of new.children) None c.open-spot.ensures.spot ∙ get_or-map shape_of new.children spot c.index-few-spot.result None i in
    let all = ap (slots_at new.indices) (map-set shape_of new.children spot node) ∙ spot_set at spot new.indices (map shape_of new.children) (shape_of node) c.open-spot.ensures.spot ∙ ap (with_or_without at (shape_of node)) c.open-spot.ensures.slots in
    let made : OnOk c.put.result (AreFormsWith cmp place c.args.left pair (pairs_in old) (slots_at new.indices (map shape_of (set new.children spot node)))) =
    on_ok_weaker c.put.result (λ with. subst (AreFormsWith cmp place c.args.left pair (pairs_in old)) (sym all) (forms_with cmp place c.args.left at old pair node c.requires.some c.requires.forms (c.index.ensures.value ∙ ap (index_of (c.args.left - 1)) c.requires.place) (rw e with))) c.put.ensures.form
    in
    search (rules, the_lemmas)

pub put_among-returns-clause-found : goal.put_among-returns-clause-found
put_among-returns-clause-found g t c =
    let old = few_slots c.args.few.now in
    let new = c.open-spot.new.few in
    let spot = c.open-spot.result in
    let at = c.index.result in
    let key = c.args.pending.now.pair.0 in
    let i : spot < length new.children = omega (arith, c.open-spot.ensures.small) in
    let e = ap (child_at at) (sym c.open-spot.ensures.slots) ∙ spot_child at spot new.indices (map shape_of new.children) None c.open-spot.ensures.spot ∙ get_or-map shape_of new.children spot c.index-few-spot.result None i in
    let looked = lookup-slots g.K.Ord.cmp g.K.Place.place_of g.met.K.Place.respects_equal c.args.left old c.requires.forms key at (c.index.ensures.value ∙ ap (index_of (c.args.left - 1)) c.requires.place) ∙ ap (λ o. lookup (is_at (g.K.Ord.cmp key)) (node_pairs o)) e in
    rw looked c.put.ensures.found

pub put_among-returns-clause-unchanged : goal.put_among-returns-clause-unchanged
put_among-returns-clause-unchanged g t c =
    let new = c.open-spot.new.few in
    let spot = c.open-spot.result in
    let same : OnErr c.put.result (slots_at new.indices (map shape_of (set new.children spot c.put.new.node)) ≡ few_slots c.args.few.now) =
    on_err_weaker c.put.result (λ same. ap (slots_at new.indices) (map-set_same shape_of new.children spot c.put.new.node c.index-few-spot.result same) ∙ c.open-spot.ensures.slots) c.put.ensures.unchanged
    in
    search (rules, the_lemmas)

pub put_widened-widened-requires : goal.put_widened-widened-requires
put_widened-widened-requires g t c = (omega arith, (omega arith, rw c.deref.ensures (forms_rise g.K.Ord.cmp g.K.Place.place_of (c.args.left - 1) 0 (few_slots (arc_value c.args.few.now)) c.requires.forms)))

pub put_widened-put_in_branch-requires : goal.put_widened-put_in_branch-requires
put_widened-put_in_branch-requires g t c κs within =
    (omega (arith, c.decreases), (within.0, (within.1.0, (within.1.1, (omega arith, (c.requires.levels, (c.requires.some, (rw (c.in_ok-branch.ensures, c.deref.ensures) c.requires.forms, (c.requires.place, (c.requires.there, c.requires.ready))))))))))

pub put_widened-returns-clause-branch : goal.put_widened-returns-clause-branch
put_widened-returns-clause-branch g t c =
    record { slots = child_slots (arc_value c.put_in_branch.new.children).value; shape = shape_of-Branch c.put_in_branch.new.children; with = rw (c.in_ok-branch.ensures, c.deref.ensures) at c.in_ok-found.ensures.branch }

pub put_widened-returns-clause-found : goal.put_widened-returns-clause-found
put_widened-returns-clause-found g t c = rw (c.in_ok-branch.ensures, c.deref.ensures) at c.in_ok-found.ensures.found

pub put_in_few-returns-in_err-own-clause-unchanged : goal.put_in_few-returns-in_err-own-clause-unchanged
put_in_few-returns-in_err-own-clause-unchanged g t c =
    let few = arc_value c.args.few.now in
    let same = copied_few few (arc_value c.make_mut.follows.lender-at-none) (kept_few few (arc_value c.make_mut.follows.lender-at-none) (rw c.in_err-own.was at c.make_mut.follows.holds-at-none)) in
    search (rules, same)

pub put_in_few-put_among-requires : goal.put_in_few-put_among-requires
put_in_few-put_among-requires g t c κs within =
    let few = arc_value c.args.few.now in
    let kept = kept_few few c.in_ok-own.own.now c.in_ok-own.ensures.value in
    let same = copied_few few c.in_ok-own.own.now kept in
    let room : child_at (index_of (c.args.left - 1) c.args.place) (few_slots c.in_ok-own.own.now) ≡ None → HasRoom c.in_ok-own.own.now = λ n. ap (λ l. get_or l 3 None) kept.children ∙ c.requires.room (ap (child_at (index_of (c.args.left - 1) c.args.place)) (sym same) ∙ n) in
    (omega (arith, c.decreases), (within.0, (within.1.0, (within.1.1, (omega arith, (c.requires.levels, (c.requires.some, (rw same c.requires.forms, (room, (c.requires.place, (c.requires.there, c.requires.ready)))))))))))

pub put_in_few-returns-clause-branch : goal.put_in_few-returns-clause-branch
put_in_few-returns-clause-branch g t c =
    let few = arc_value c.args.few.now in
    let same = copied_few few c.in_ok-own.own.now (kept_few few c.in_ok-own.own.now c.in_ok-own.ensures.value) in
    let ok : IsOk c.make_mut.result = rw c.in_ok-own.was refl in
    rw (c.make_mut.follows.holds c.put_among.new.few ok, ← same) c.put_among.ensures.branch

pub put_in_few-returns-clause-found : goal.put_in_few-returns-clause-found
put_in_few-returns-clause-found g t c =
    let few = arc_value c.args.few.now in
    let same = copied_few few c.in_ok-own.own.now (kept_few few c.in_ok-own.own.now c.in_ok-own.ensures.value) in
    rw (← same) c.put_among.ensures.found

pub put_in_few-returns-clause-unchanged : goal.put_in_few-returns-clause-unchanged
put_in_few-returns-clause-unchanged g t c =
    let few = arc_value c.args.few.now in
    let same = copied_few few c.in_ok-own.own.now (kept_few few c.in_ok-own.own.now c.in_ok-own.ensures.value) in
    let ok : IsOk c.make_mut.result = rw c.in_ok-own.was refl in
    rw (c.make_mut.follows.holds c.put_among.new.few ok, ← same) c.put_among.ensures.unchanged
