-- The children of a small branch: what is found, and what a change of one child leaves.
use Rattle.std.proofs.Common.{◌≡◌, ℕ, zero, suc, ◌+◌, ◌<◌, ◌≤◌, ◌==◌, Bool, true, false, cond, List, [], ◌∷◌, length, get_or, drop, map, Option, Some, None, is_none, is_some, Ordering, refl, sym, ap, ap₂, ◌∙◌, arith}
use Rattle.std.proofs.Math.ListN.{set}
use Rattle.std.proofs.lemmas.Bool.Decides.{nat_tests}
use Rattle.std.specs.BTreeMap.{is_at}
use Rattle.std.specs.Map.{lookup}
use Rattle.std.specs.Prelude.{MatchOption}
use Rattle.kv_trie.specs.declared.branch.Few.{Few}
use Rattle.kv_trie.specs.declared.node.Node.{Node}
use Rattle.kv_trie.specs.Form.{Shape, Slots, leaf, branch, row, none, more, pairs_of, node_pairs, child_at, with_child, without_child, with_or_without, contract, whole, Each, AreForms}
use Rattle.kv_trie.specs.Stored.{shape_of, slots_from, slots_at, child_slots, few_slots}
use Rattle.kv_trie.specs.inside.Few.{Rises, IsSpot, IsBehind, IsBefore, has_slots}
use Rattle.kv_trie.proofs.Canonical.{index_below}
use Rattle.std.proofs.lemmas.List.{drop_more, get_or-map, length-map, length-set}
use Rattle.kv_trie.proofs.Form.{key_index, child_at-same, child_at-greater, with_child-less, with_child-same, with_child-greater}
use Rattle.kv_trie.proofs.Removal.{form_some, without_child-same, without_child-greater}
use Rattle.kv_trie.proofs.Slots.{with_child-below, without_child-below}

up : (i : ℕ) → suc i ≡ i + 1
up i = omega arith

-- ---- indices that ascend

module _ {K V : Type 0} (cmp : K → K → Ordering) (place : K → ℕ) where
  index_small : (left i : ℕ) (pairs : List (K × V)) → 0 < length pairs → Each (λ e. key_index place left e.0 ≡ i) pairs → i < 32
  index_small left i [] n a = absurd (omega arith)
  index_small left i (e ∷ es) n a = rw (← a.0) (index_below left (place e.0))

  -- those of a branch do
  pub forms_rise : (left low : ℕ) (slots : Slots (K × V)) → AreForms cmp place left low slots → Rises low slots
  forms_rise left low none f = tt
  forms_rise left low (more i child slots) f = (f.0, index_small left i (pairs_of child) (form_some cmp place left child f.2) f.1, forms_rise left (suc i) slots f.3)

module _ {P : Type 0} where
  pub rises_from : (low : ℕ) (cs : List (Option (Shape P))) → low + length cs ≤ 32 → Rises low (slots_from low cs)
  rises_from low [] l = tt
  rises_from low (None ∷ cs) l = rises_later low (suc low) (slots_from (suc low) cs) (omega arith) (rises_from (suc low) cs (omega arith))
    where
      rises_later : (low high : ℕ) (slots : Slots P) → low ≤ high → Rises high slots → Rises low slots
      rises_later low high none l r = tt
      rises_later low high (more i c slots) l r = (omega (arith, r.0), r.1, r.2)
  rises_from low (Some c ∷ cs) l = (omega arith, omega arith, rises_from (suc low) cs (omega arith))

  -- nothing has an index below them
  pub child_at-rises : (low i : ℕ) (slots : Slots P) → Rises low slots → i < low → child_at i slots ≡ None
  child_at-rises low i none r l = refl
  child_at-rises low i (more j c slots) r l =
      let n : i < j = omega (arith, r.0) in
      let e = child_at-rises (suc j) i slots r.2 (omega arith) in
      grind (arith, nat_tests)

  without_child-rises : (low i : ℕ) (slots : Slots P) → Rises low slots → i < low → without_child i slots ≡ slots
  without_child-rises low i none r l = refl
  without_child-rises low i (more j c slots) r l =
      let n : i < j = omega (arith, r.0) in
      let e = without_child-rises (suc j) i slots r.2 (omega arith) in
      grind (arith, nat_tests)

  pub with_child-rises : (low i : ℕ) (new : Shape P) (slots : Slots P) → Rises low slots → i < low → with_child i new slots ≡ more i new slots
  with_child-rises low i new none r l = refl
  with_child-rises low i new (more j c slots) r l = with_child-less i j new c slots (omega (arith, r.0))

  not_there_step : (t : Bool) (c : Shape P) (o : Option (Shape P)) → cond t (Some c) o ≡ None → o ≡ None
  not_there_step true c o h = cc
  not_there_step false c o h = h

  -- ---- the place of a child

  -- what stands at the place is what is found
  pub spot_child : (at spot : ℕ) (is : List ℕ) (cs : List (Option (Shape P))) (d : Option (Shape P)) → IsSpot at spot is cs → child_at at (slots_at is cs) ≡ get_or cs spot d
  spot_child at spot [] cs d s = absurd s
  spot_child at spot (i ∷ is) [] d s = absurd s
  spot_child at zero (i ∷ is) (None ∷ cs) d s = child_at-rises (suc at) at (slots_at is cs) s.1 (omega arith)
  spot_child at zero (i ∷ is) (Some c ∷ cs) d s = child_at-same at i c (slots_at is cs) (sym s.0)
  spot_child at (suc spot) (i ∷ is) (None ∷ cs) d s = spot_child at spot is cs d s
  spot_child at (suc spot) (i ∷ is) (Some c ∷ cs) d s = child_at-greater at i c (slots_at is cs) s.0 ∙ spot_child at spot is cs d s.1

  -- another child there, or none
  pub spot_set : (at spot : ℕ) (is : List ℕ) (cs : List (Option (Shape P))) (new : Option (Shape P)) → IsSpot at spot is cs → slots_at is (set cs spot new) ≡ with_or_without at new (slots_at is cs)
  spot_set at spot [] cs new s = absurd s
  spot_set at spot (i ∷ is) [] new s = absurd s
  spot_set at zero (i ∷ is) (None ∷ cs) None s = sym (without_child-rises (suc at) at (slots_at is cs) s.1 (omega arith))
  spot_set at zero (i ∷ is) (None ∷ cs) (Some n) s = ap (λ j. more j n (slots_at is cs)) s.0 ∙ sym (with_child-rises (suc at) at n (slots_at is cs) s.1 (omega arith))
  spot_set at zero (i ∷ is) (Some c ∷ cs) None s = sym (without_child-same at i c (slots_at is cs) (sym s.0))
  spot_set at zero (i ∷ is) (Some c ∷ cs) (Some n) s = ap (λ j. more j n (slots_at is cs)) s.0 ∙ sym (with_child-same at i n c (slots_at is cs) (sym s.0))
  spot_set at (suc spot) (i ∷ is) (None ∷ cs) new s = spot_set at spot is cs new s
  spot_set at (suc spot) (i ∷ is) (Some c ∷ cs) None s = ap (more i c) (spot_set at spot is cs None s.1) ∙ sym (without_child-greater at i c (slots_at is cs) s.0)
  spot_set at (suc spot) (i ∷ is) (Some c ∷ cs) (Some n) s = ap (more i c) (spot_set at spot is cs (Some n) s.1) ∙ sym (with_child-greater at i n c (slots_at is cs) s.0)

  -- where a child of the index stands is its place
  spot_from_both : (low at spot : ℕ) (is : List ℕ) (cs : List (Option (Shape P))) → spot < length is → spot < length cs → get_or is spot 0 ≡ at → is_some (get_or cs spot None) ≡ true → Rises low (slots_at is cs) → IsSpot at spot is cs × (low ≤ at)
  spot_from_both low at spot [] cs l m e f r = absurd (omega arith)
  spot_from_both low at spot (i ∷ is) [] l m e f r = absurd (omega arith)
  spot_from_both low at zero (i ∷ is) (None ∷ cs) l m e f r = cc
  spot_from_both low at zero (i ∷ is) (Some d ∷ cs) l m e f r = ((e, rw (← e) r.2), omega (arith, e, r.0))
  spot_from_both low at (suc spot) (i ∷ is) (None ∷ cs) l m e f r = spot_from_both low at spot is cs (omega arith) (omega arith) e f r
  spot_from_both low at (suc spot) (i ∷ is) (Some d ∷ cs) l m e f r =
      let s = spot_from_both (suc i) at spot is cs (omega arith) (omega arith) e f r.2 in
      ((omega (arith, s.1), s.0), omega (arith, s.1, r.0))

  pub spot_from : (at spot : ℕ) (is : List ℕ) (cs : List (Option (Shape P))) → spot < length is → spot < length cs → get_or is spot 0 ≡ at → is_some (get_or cs spot None) ≡ true → Rises 0 (slots_at is cs) → IsSpot at spot is cs
  spot_from at spot is cs l m e f r = (spot_from_both 0 at spot is cs l m e f r).0

  -- ---- looking for it

  -- what is found from the place on
  pub from_found : (at spot : ℕ) (is : List ℕ) (cs : List (Option (Shape P))) → spot < length is → spot < length cs → get_or is spot 0 ≡ at → is_some (get_or cs spot None) ≡ true → child_at at (slots_at (drop spot is) (drop spot cs)) ≡ get_or cs spot None
  from_found at spot [] cs l m e f = absurd (omega arith)
  from_found at spot (i ∷ is) [] l m e f = absurd (omega arith)
  from_found at zero (i ∷ is) (None ∷ cs) l m e f = cc
  from_found at zero (i ∷ is) (Some d ∷ cs) l m e f = child_at-same at i d (slots_at is cs) (sym e)
  from_found at (suc spot) (i ∷ is) (d ∷ cs) l m e f = from_found at spot is cs (omega arith) (omega arith) e f

  next : (at spot : ℕ) (is : List ℕ) (cs : List (Option (Shape P))) → spot < length is → spot < length cs → get_or cs spot None ≡ None → child_at at (slots_at (drop spot is) (drop spot cs)) ≡ child_at at (slots_at (drop (suc spot) is) (drop (suc spot) cs))
  next at spot [] cs l m h = absurd (omega arith)
  next at spot (j ∷ is) [] l m h = absurd (omega arith)
  next at zero (j ∷ is) (None ∷ cs) l m h = refl
  next at zero (j ∷ is) (Some d ∷ cs) l m h = cc
  next at (suc spot) (j ∷ is) (d ∷ cs) l m h = next at spot is cs (omega arith) (omega arith) h

  no_children : (is : List ℕ) → slots_at {P = P} is [] ≡ none
  no_children [] = refl
  no_children (i ∷ is) = refl

  next_other : (at spot : ℕ) (is : List ℕ) (cs : List (Option (Shape P))) → spot < length is → (get_or is spot 0 ≡ at → ⊥) → child_at at (slots_at (drop spot is) (drop spot cs)) ≡ child_at at (slots_at (drop (suc spot) is) (drop (suc spot) cs))
  next_other at spot [] cs l h = absurd (omega arith)
  next_other at zero (j ∷ is) [] l h = rw (no_children is) refl
  next_other at (suc spot) (j ∷ is) [] l h = rw (no_children (drop spot is), no_children (drop (suc spot) is)) refl
  next_other at zero (j ∷ is) (None ∷ cs) l h = refl
  next_other at zero (j ∷ is) (Some d ∷ cs) l h = let n : at ≡ j → ⊥ = λ q. h (sym q) in grind (arith, nat_tests)
  next_other at (suc spot) (j ∷ is) (d ∷ cs) l h = next_other at spot is cs (omega arith) h

  pub from_other : (at spot : ℕ) (is : List ℕ) (cs : List (Option (Shape P))) → spot < length is → (get_or is spot 0 ≡ at → ⊥) → child_at at (slots_at (drop spot is) (drop spot cs)) ≡ child_at at (slots_at (drop (spot + 1) is) (drop (spot + 1) cs))
  from_other at spot is cs l h = next_other at spot is cs l h ∙ ap (λ n. child_at at (slots_at (drop n is) (drop n cs))) (up spot)

  pub from_next : (at spot : ℕ) (is : List ℕ) (cs : List (Option (Shape P))) → spot < length is → spot < length cs → get_or cs spot None ≡ None → child_at at (slots_at (drop spot is) (drop spot cs)) ≡ child_at at (slots_at (drop (spot + 1) is) (drop (spot + 1) cs))
  from_next at spot is cs l m h = next at spot is cs l m h ∙ ap (λ n. child_at at (slots_at (drop n is) (drop n cs))) (up spot)

  -- ---- a place that is free

  -- none stands there, and children behind it have higher indices
  abbrev pub IsGap : (at gap : ℕ) → List ℕ → List (Option (Shape P)) → Type 0
  IsGap at gap [] cs = ⊥
  IsGap at gap (i ∷ is) [] = ⊥
  IsGap at zero (i ∷ is) (None ∷ cs) = Rises (suc at) (slots_at is cs)
  IsGap at zero (i ∷ is) (Some c ∷ cs) = ⊥
  IsGap at (suc gap) (i ∷ is) (c ∷ cs) = IsGap at gap is cs

  pub last_gap : (at n : ℕ) (is : List ℕ) (cs : List (Option (Shape P))) → length is ≡ suc n → length cs ≡ suc n → get_or cs n None ≡ None → IsGap at n is cs
  last_gap at n [] cs l m h = absurd (omega arith)
  last_gap at n (i ∷ is) [] l m h = absurd (omega arith)
  last_gap at zero (i ∷ []) (None ∷ cs) l m h = tt
  last_gap at zero (i ∷ j ∷ is) (None ∷ cs) l m h = absurd (omega arith)
  last_gap at zero (i ∷ is) (Some c ∷ cs) l m h = cc
  last_gap at (suc n) (i ∷ is) (c ∷ cs) l m h = last_gap at n is cs (omega arith) (omega arith) h

  -- the child before it moves there
  moved_both : (low at gap : ℕ) (is : List ℕ) (cs : List (Option (Shape P))) → IsGap at (suc gap) is cs → IsBehind at gap is cs → Rises low (slots_at is cs) → IsGap at gap (set is (suc gap) (get_or is gap 0)) (set (set cs gap None) (suc gap) (get_or cs gap None)) × (slots_at (set is (suc gap) (get_or is gap 0)) (set (set cs gap None) (suc gap) (get_or cs gap None)) ≡ slots_at is cs)
  moved_both low at gap [] cs g b r = absurd g
  moved_both low at gap (j ∷ is) [] g b r = absurd g
  moved_both low at zero (j ∷ []) (d ∷ cs) g b r = absurd g
  moved_both low at zero (j ∷ k ∷ is) (d ∷ []) g b r = absurd g
  moved_both low at zero (j ∷ k ∷ is) (d ∷ Some o ∷ cs) g b r = absurd g
  moved_both low at zero (j ∷ k ∷ is) (None ∷ None ∷ cs) g b r = (g, refl)
  moved_both low at zero (j ∷ k ∷ is) (Some d ∷ None ∷ cs) g b r = ((b, r.1, r.2), refl)
  moved_both low at (suc gap) (j ∷ is) (None ∷ cs) g b r = moved_both low at gap is cs g b r
  moved_both low at (suc gap) (j ∷ is) (Some d ∷ cs) g b r =
      let m = moved_both (suc j) at gap is cs g b r.2 in
      (m.0, ap (more j d) m.1)

  pub moved : (at gap from : ℕ) (is : List ℕ) (cs : List (Option (Shape P))) → gap ≡ suc from → IsGap at gap is cs → IsBehind at from is cs → Rises 0 (slots_at is cs) → IsGap at from (set is gap (get_or is from 0)) (set (set cs from None) gap (get_or cs from None)) × (slots_at (set is gap (get_or is from 0)) (set (set cs from None) gap (get_or cs from None)) ≡ slots_at is cs)
  moved at gap from is cs e g b r = rw e (moved_both 0 at from is cs (rw (← e) g) b r)

  -- a place before which all have lower indices is that of the index
  pub first_gap : (at : ℕ) (is : List ℕ) (cs : List (Option (Shape P))) → IsGap at 0 is cs → IsSpot at 0 (set is 0 at) cs × (slots_at (set is 0 at) cs ≡ slots_at is cs)
  first_gap at [] cs g = absurd g
  first_gap at (i ∷ is) [] g = absurd g
  first_gap at (i ∷ is) (None ∷ cs) g = ((refl, g), refl)
  first_gap at (i ∷ is) (Some c ∷ cs) g = absurd g

  settled_both : (low at gap : ℕ) (is : List ℕ) (cs : List (Option (Shape P))) → IsGap at (suc gap) is cs → IsBefore at gap is cs → Rises low (slots_at is cs) → child_at at (slots_at is cs) ≡ None → IsSpot at (suc gap) (set is (suc gap) at) cs × (slots_at (set is (suc gap) at) cs ≡ slots_at is cs) × (low ≤ at)
  settled_both low at gap [] cs g b r n = absurd g
  settled_both low at gap (i ∷ is) [] g b r n = absurd g
  settled_both low at zero (i ∷ is) (None ∷ cs) g b r n = absurd b
  settled_both low at zero (i ∷ is) (Some c ∷ cs) g b r n =
      let apart : (at ≡ i → ⊥) = λ e. let bad : Some c ≡ None = sym (child_at-same at i c (slots_at is cs) e) ∙ n in cc in
      let f = first_gap at is cs g in
      ((omega (arith, b, apart), f.0), ap (more i c) f.1, omega (arith, b, r.0))
  settled_both low at (suc gap) (i ∷ is) (None ∷ cs) g b r n = settled_both low at gap is cs g b r n
  settled_both low at (suc gap) (i ∷ is) (Some c ∷ cs) g b r n =
      let s = settled_both (suc i) at gap is cs g b r.2 (not_there_step (at == i) c (child_at at (slots_at is cs)) n) in
      ((omega (arith, s.2), s.0), ap (more i c) s.1, omega (arith, s.2, r.0))

  pub settled : (at gap from : ℕ) (is : List ℕ) (cs : List (Option (Shape P))) → gap ≡ suc from → IsGap at gap is cs → IsBefore at from is cs → Rises 0 (slots_at is cs) → child_at at (slots_at is cs) ≡ None → IsSpot at gap (set is gap at) cs × (slots_at (set is gap at) cs ≡ slots_at is cs)
  settled at gap from is cs e g b r n = rw e (let s = settled_both 0 at from is cs (rw (← e) g) b r n in (s.0, s.1))

  -- what stands at a place is behind an index, or before it
  pub behind_none : (at spot : ℕ) (is : List ℕ) (cs : List (Option (Shape P))) → spot < length is → spot < length cs → get_or cs spot None ≡ None → IsBehind at spot is cs
  behind_none at spot [] cs l m h = absurd (omega arith)
  behind_none at spot (i ∷ is) [] l m h = absurd (omega arith)
  behind_none at zero (i ∷ is) (None ∷ cs) l m h = tt
  behind_none at zero (i ∷ is) (Some c ∷ cs) l m h = cc
  behind_none at (suc spot) (i ∷ is) (c ∷ cs) l m h = behind_none at spot is cs (omega arith) (omega arith) h

  pub behind_some : (at spot : ℕ) (is : List ℕ) (cs : List (Option (Shape P))) → spot < length is → spot < length cs → at < get_or is spot 0 → IsBehind at spot is cs
  behind_some at spot [] cs l m h = absurd (omega arith)
  behind_some at spot (j ∷ is) [] l m h = absurd (omega arith)
  behind_some at zero (j ∷ is) (None ∷ cs) l m h = tt
  behind_some at zero (j ∷ is) (Some c ∷ cs) l m h = h
  behind_some at (suc spot) (j ∷ is) (c ∷ cs) l m h = behind_some at spot is cs (omega arith) (omega arith) h

  pub before_some : (at spot : ℕ) (is : List ℕ) (cs : List (Option (Shape P))) → spot < length is → spot < length cs → is_some (get_or cs spot None) ≡ true → get_or is spot 0 ≤ at → IsBefore at spot is cs
  before_some at spot [] cs l m f h = absurd (omega arith)
  before_some at spot (j ∷ is) [] l m f h = absurd (omega arith)
  before_some at zero (j ∷ is) (None ∷ cs) l m f h = cc
  before_some at zero (j ∷ is) (Some d ∷ cs) l m f h = h
  before_some at (suc spot) (j ∷ is) (d ∷ cs) l m f h = before_some at spot is cs (omega arith) (omega arith) f h

  -- the child behind a place where none is moves there
  closed_one : (to : ℕ) (is : List ℕ) (cs : List (Option (Shape P))) → suc to < length is → suc to < length cs → get_or cs to None ≡ None → slots_at (set is to (get_or is (suc to) 0)) (set (set cs (suc to) None) to (get_or cs (suc to) None)) ≡ slots_at is cs
  closed_one to [] cs l m h = absurd (omega arith)
  closed_one to (j ∷ is) [] l m h = absurd (omega arith)
  closed_one zero (j ∷ []) (d ∷ cs) l m h = absurd (omega arith)
  closed_one zero (j ∷ k ∷ is) (d ∷ []) l m h = absurd (omega arith)
  closed_one zero (j ∷ k ∷ is) (Some d ∷ o ∷ cs) l m h = cc
  closed_one zero (j ∷ k ∷ is) (None ∷ None ∷ cs) l m h = refl
  closed_one zero (j ∷ k ∷ is) (None ∷ Some o ∷ cs) l m h = refl
  closed_one (suc to) (j ∷ is) (None ∷ cs) l m h = closed_one to is cs (omega arith) (omega arith) h
  closed_one (suc to) (j ∷ is) (Some d ∷ cs) l m h = ap (more j d) (closed_one to is cs (omega arith) (omega arith) h)

  pub closed : (to from : ℕ) (is : List ℕ) (cs : List (Option (Shape P))) → from ≡ suc to → from < length is → from < length cs → get_or cs to None ≡ None → slots_at (set is to (get_or is from 0)) (set (set cs from None) to (get_or cs from None)) ≡ slots_at is cs
  closed to from is cs e l m h = rw e (closed_one to is cs (rw (← e) l) (rw (← e) m) h)

  -- ---- one more child, from the last on

  spread_none_one : (spot : ℕ) (is : List ℕ) (cs : List (Option (Shape P))) → spot < length is → spot < length cs → get_or cs spot None ≡ None → slots_at (drop spot is) (drop spot cs) ≡ slots_at (drop (suc spot) is) (drop (suc spot) cs)
  spread_none_one spot [] cs l m f = absurd (omega arith)
  spread_none_one spot (j ∷ is) [] l m f = absurd (omega arith)
  spread_none_one zero (j ∷ is) (None ∷ cs) l m f = refl
  spread_none_one zero (j ∷ is) (Some d ∷ cs) l m f = cc
  spread_none_one (suc spot) (j ∷ is) (d ∷ cs) l m f = spread_none_one spot is cs (omega arith) (omega arith) f

  pub spread_none : (spot after : ℕ) (is : List ℕ) (cs : List (Option (Shape P))) → after ≡ suc spot → spot < length is → spot < length cs → get_or cs spot None ≡ None → slots_at (drop spot is) (drop spot cs) ≡ slots_at (drop after is) (drop after cs)
  spread_none spot after is cs e l m f = rw e (spread_none_one spot is cs l m f)

  spread_some_one : (spot low : ℕ) (is : List ℕ) (cs : List (Option (Shape P))) → spot < length is → spot < length cs → is_some (get_or cs spot None) ≡ true → Rises low (slots_at is cs) → (get_or is spot 0 < 32) × (slots_at (drop spot is) (drop spot cs) ≡ with_or_without (get_or is spot 0) (get_or cs spot None) (slots_at (drop (suc spot) is) (drop (suc spot) cs)))
  spread_some_one spot low [] cs l m f r = absurd (omega arith)
  spread_some_one spot low (j ∷ is) [] l m f r = absurd (omega arith)
  spread_some_one zero low (j ∷ is) (None ∷ cs) l m f r = cc
  spread_some_one zero low (j ∷ is) (Some d ∷ cs) l m f r = (r.1, sym (with_child-rises (suc j) j d (slots_at is cs) r.2 (omega arith)))
  spread_some_one (suc spot) low (j ∷ is) (None ∷ cs) l m f r = spread_some_one spot low is cs (omega arith) (omega arith) f r
  spread_some_one (suc spot) low (j ∷ is) (Some d ∷ cs) l m f r = spread_some_one spot (suc j) is cs (omega arith) (omega arith) f r.2

  pub spread_some : (spot after : ℕ) (is : List ℕ) (cs : List (Option (Shape P))) → after ≡ suc spot → spot < length is → spot < length cs → is_some (get_or cs spot None) ≡ true → Rises 0 (slots_at is cs) → (get_or is spot 0 < 32) × (slots_at (drop spot is) (drop spot cs) ≡ with_or_without (get_or is spot 0) (get_or cs spot None) (slots_at (drop after is) (drop after cs)))
  spread_some spot after is cs e l m f r = rw e (spread_some_one spot 0 is cs l m f r)

  -- ---- children that are gathered, from the last on

  first : (i after : ℕ) (c : Option (Shape P)) (cs : List (Option (Shape P))) → after ≡ suc i → slots_from i (c ∷ cs) ≡ with_or_without i c (slots_from after cs)
  first i after None cs e = rw e (sym (without_child-below i (suc i) cs (omega arith)))
  first i after (Some c) cs e = rw e (sym (with_child-below i (suc i) c cs (omega arith)))

  pub gathered : (at after : ℕ) (cs : List (Option (Shape P))) → after ≡ suc at → at < length cs → slots_from at (drop at cs) ≡ with_or_without at (get_or cs at None) (slots_from after (drop after cs))
  gathered at after cs e l =
      let n : after ≡ at + 1 = omega (arith, e) in
      ap (slots_from at) (drop_more cs at None l) ∙ first at after (get_or cs at None) (drop (at + 1) cs) e ∙ ap (λ j. with_or_without at (get_or cs at None) (slots_from after (drop j cs))) (sym n)

  pub gathered_none : (at after : ℕ) (cs : List (Option (Shape P))) → after ≡ suc at → at < length cs → get_or cs at None ≡ None → slots_from at (drop at cs) ≡ slots_from after (drop after cs)
  gathered_none at after cs e l h =
      let n : after ≡ at + 1 = omega (arith, e) in
      ap (slots_from at) (drop_more cs at None l) ∙ ap (λ c. slots_from at (c ∷ drop (at + 1) cs)) h ∙ ap₂ (λ i j. slots_from i (drop j cs)) (sym e) (sym n)

  rises_zero : (low : ℕ) (slots : Slots P) → Rises low slots → Rises 0 slots
  rises_zero low none r = tt
  rises_zero low (more i c slots) r = (omega arith, r.1, r.2)

  pub rises_part : (low n k : ℕ) (cs : List (Option (Shape P))) → k ≡ low + n → low + length cs ≤ 32 → Rises 0 (slots_from k (drop n cs))
  rises_part low zero k cs e l = let same : k ≡ low = omega (arith, e) in rw same (rises_zero low (slots_from low cs) (rises_from low cs l))
  rises_part low (suc n) k [] e l = tt
  rises_part low (suc n) k (c ∷ cs) e l = rises_part (suc low) n k cs (omega (arith, e)) (omega (arith, l))

  -- ---- children in other numbers

  -- the same children, whatever their indices
  abbrev AreAlike : Slots P → Slots P → Type 0
  AreAlike none none = Unit {0}
  AreAlike none (more j d t) = ⊥
  AreAlike (more i c s) none = ⊥
  AreAlike (more i c s) (more j d t) = (c ≡ d) × AreAlike s t

  pub alike_slots : (low : ℕ) (is : List ℕ) (cs : List (Option (Shape P))) → length cs ≤ length is → AreAlike (slots_from low cs) (slots_at is cs)
  alike_slots low [] [] l = tt
  alike_slots low (i ∷ is) [] l = tt
  alike_slots low [] (c ∷ cs) l = absurd (omega arith)
  alike_slots low (i ∷ is) (None ∷ cs) l = alike_slots (suc low) is cs (omega arith)
  alike_slots low (i ∷ is) (Some c ∷ cs) l = (refl, alike_slots (suc low) is cs (omega arith))

  pub alike_lone : (s t : Slots P) → AreAlike s t → has_slots (whole s) ≡ false → whole s ≡ whole t
  alike_lone none none a h = refl
  alike_lone none (more j d t) a h = absurd a
  alike_lone (more i c s) none a h = absurd a
  alike_lone (more i (leaf p) none) (more j d none) a h = ap (λ e. Some (contract (branch (more j e none)))) a.0
  alike_lone (more i (leaf p) none) (more j d (more k e t)) a h = absurd a.1
  alike_lone (more i (leaf p) (more k c s)) (more j d t) a h = cc
  alike_lone (more i (branch q) s) (more j d t) a h = cc
  alike_lone (more i (row q) s) (more j d t) a h = cc

  pub alike_branch : (s t : Slots P) → AreAlike s t → whole s ≡ Some (branch s) → whole t ≡ Some (branch t)
  alike_branch none none a h = cc
  alike_branch none (more j d t) a h = absurd a
  alike_branch (more i c s) none a h = absurd a
  alike_branch (more i (leaf p) none) (more j d t) a h = cc
  alike_branch (more i (leaf p) (more k c s)) (more j d none) a h = absurd a.1
  alike_branch (more i (leaf p) (more k c s)) (more j d (more l e t)) a h = rw (← a.0) refl
  alike_branch (more i (branch q) s) (more j d t) a h = rw (← a.0) refl
  alike_branch (more i (row q) s) (more j d t) a h = rw (← a.0) refl

-- ---- stored children

module _ {K V : Type 0} where
  -- what stands at a place
  pub shape_at : (children : List (Node K V)) (i : ℕ) (c : Node K V) → i < length children → c ≡ get_or children i c → get_or (map shape_of children) i None ≡ shape_of c
  shape_at children i c l e = get_or-map shape_of children i c None l ∙ ap shape_of (sym e)

is_there : {X : Type 0} (o : Option X) → is_none o ≡ false → is_some o ≡ true
is_there None h = cc
is_there (Some x) h = refl

is_missing : {X : Type 0} (o : Option X) → is_none o ≡ true → o ≡ None
is_missing None h = refl
is_missing (Some x) h = cc

pub some_within : {X : Type 0} (xs : List (Option X)) (i : ℕ) → is_some (get_or xs i None) ≡ true → i < length xs
some_within [] i h = cc
some_within (x ∷ xs) zero h = omega arith
some_within (x ∷ xs) (suc i) h = let l = some_within xs i h in omega (arith, l)

module _ {K V : Type 0} (children : List (Node K V)) (i : ℕ) (c : Node K V) (within : i < length children) (b : Bool) (tested : b ≡ is_none (shape_of (get_or children i c))) where
  -- there is a child at a place, or there is none
  pub there_at : b ≡ false → is_some (get_or (map shape_of children) i None) ≡ true
  there_at h = ap is_some (get_or-map shape_of children i c None within) ∙ is_there (shape_of (get_or children i c)) (sym tested ∙ h)

  pub none_at : b ≡ true → get_or (map shape_of children) i None ≡ None
  none_at h = get_or-map shape_of children i c None within ∙ is_missing (shape_of (get_or children i c)) (sym tested ∙ h)

-- two places of a list that are set leave it as long
pub kept_length : {A B : Type 0} (f : A → B) (xs ys : List A) (i j : ℕ) (a b : B) → map f ys ≡ set (set (map f xs) i a) j b → length ys ≡ length xs
kept_length f xs ys i j a b e = sym (length-map ys f) ∙ ap length e ∙ length-set (set (map f xs) i a) j b ∙ length-set (map f xs) i a ∙ length-map xs f

-- what the children of a small branch make, from what they make under other indices
pub rest_of_few : {K V : Type 0} (few : Few (List (Node K V))) (new : List (Node K V)) (o : Option (Node K V)) → length few.children ≤ length few.indices → MatchOption o ((new ≡ few.children) × (whole (child_slots few.children) ≡ Some (branch (child_slots few.children)))) (λ node. (shape_of node ≡ whole (child_slots few.children)) × (has_slots (shape_of node) ≡ false)) → MatchOption o ((few_slots (record few { children = new }) ≡ few_slots few) × (whole (few_slots few) ≡ Some (branch (few_slots few)))) (λ node. shape_of node ≡ whole (few_slots few))
rest_of_few few new None n m =
    let a = alike_slots 0 few.indices (map shape_of few.children) (omega (arith, n, length-map few.children shape_of)) in
    (ap (λ l. slots_at few.indices (map shape_of l)) m.0, alike_branch (child_slots few.children) (few_slots few) a m.1)
rest_of_few few new (Some node) n m =
    let a = alike_slots 0 few.indices (map shape_of few.children) (omega (arith, n, length-map few.children shape_of)) in
    m.0 ∙ alike_lone (child_slots few.children) (few_slots few) a (ap has_slots (sym m.0) ∙ m.1)

-- where a key is found there is a node
pub found_some : {K V : Type 0} (cmp : K → K → Ordering) (key : K) (s : Option (Shape (K × V))) → is_some (lookup (is_at (cmp key)) (node_pairs s)) ≡ true → is_some s ≡ true
found_some cmp key None h = cc
found_some cmp key (Some s) h = refl
