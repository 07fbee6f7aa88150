-- What is wanted of a list, of slots and of a node.
use Rattle.std.proofs.Common.{true, false, ◌≡◌, ℕ, zero, suc, ◌+◌, ◌-◌, ◌<◌, ◌≤◌, ◌==◌, nat_lt, Bool, cond, List, [], ◌∷◌, ◌++◌, length, get_or, take, map, ◌||◌, ◌&&◌, Option, Some, None, Ordering, append_assoc, refl, sym, ap, ◌∙◌, arith, length-append}
use mathlib.Core.List.{append-nil}
use Rattle.std.specs.BTreeMap.{is_at}
use Rattle.std.specs.Cmp.{IsTotalOrder}
use Rattle.std.specs.Map.{lookup}
use Rattle.std.specs.List.{filter, find}
use Rattle.std.specs.Option.{unwrap_or}
use Rattle.std.specs.Ordering.{nat_cmp, is_eq}
use Rattle.std.proofs.Math.ListN.{set}
use Rattle.std.proofs.lemmas.Bool.Decides.{nat_tests}
use Rattle.std.proofs.lemmas.Cmp.{ranked, by_ranked}
use Rattle.std.proofs.lemmas.List.Elements.{filter-append, filter_agree, filter_more}
use Rattle.std.proofs.lemmas.List.{get_or-map, length-map, length-set, take_more, take_all, map-append}
use Rattle.std.specs.Arc.{arc_value}
use Rattle.std.specs.declared.alloc.Global.{Global}
use Rattle.std.specs.declared.cmp.Ordering.TheVariants.{Less, Equal}
use Rattle.std.specs.declared.sync.Arc.{Arc}
use Rattle.kv_trie.specs.declared.node.Node.{Node}
use Rattle.kv_trie.specs.Form.{Shape, Slots, row, none, more, pairs_of, pairs_in, node_pairs, child_at, with_child, without_child, with_or_without, whole, listed, order, Each, Ascends, IsForm, IsNode, AreForms}
use Rattle.kv_trie.specs.Retain.{IsRetained, IsUnwantedAt, stays_at, is_wanted, wanted_value}
use Rattle.kv_trie.specs.Stored.{shape_of, slots_from, child_slots}
use Rattle.kv_trie.proofs.Branches.{child_form}
use Rattle.kv_trie.proofs.Canonical.{filter_all, index_below, above_test, equal_test}
use Rattle.kv_trie.proofs.Form.{key_index, form_at, AreForms-above, AreForms-with_child, Each-append, Each-weaker, child_at-above, child_at-same, child_at-greater, with_child-same, with_child-greater}
use Rattle.kv_trie.proofs.Changes.{equal_from_is_eq}
use Rattle.kv_trie.proofs.Maps.{past_first, order_total, is_at-order, found_in_order}
use Rattle.kv_trie.proofs.Slots.{slots_from-set}
use Rattle.kv_trie.proofs.Removal.{whole_form, form_some, listed_form, AreForms-without_child, without_child-same, without_child-greater}

-- ---- filters

stays_after : (first i : ℕ) (b : Bool) → first < i → (nat_lt i first || (nat_lt first i && b)) ≡ b
stays_after first i true l = grind (arith, nat_tests)
stays_after first i false l = grind (arith, nat_tests)

module _ {P : Type 0} where
  merge_by : (f : P → Bool) (a b : Bool) (x : P) (ys zs : List P) → f x ≡ b → filter f ys ≡ zs → filter f (cond a (x ∷ ys) ys) ≡ cond (cond a b false) (x ∷ zs) zs
  merge_by f true true x ys zs e r = rw e (ap (λ l. x ∷ l) r)
  merge_by f true false x ys zs e r = rw e r
  merge_by f false b x ys zs e r = r

  -- one filter after another is the filter of both
  merge : (f h k : P → Bool) → ((x : P) → cond (h x) (f x) false ≡ k x) → (xs : List P) → filter f (filter h xs) ≡ filter k xs
  merge f h k s [] = refl
  merge f h k s (x ∷ xs) = merge_by f (h x) (f x) x (filter h xs) (filter k xs) refl (merge f h k s xs) ∙ ap (λ b. cond b (x ∷ filter k xs) (filter k xs)) (s x)

  filter_same : (f h : P → Bool) (xs : List P) → Each (λ x. f x ≡ h x) xs → filter f xs ≡ filter h xs
  filter_same f h [] e = refl
  filter_same f h (x ∷ xs) e = rw (e.0, filter_same f h xs e.1) refl

  Each-filter : (Q : P → Type 0) (f : P → Bool) (xs : List P) → Each Q xs → Each Q (filter f xs)
  Each-filter Q f [] h = tt
  Each-filter Q f (x ∷ xs) h = elim (f x) as (λ t. Each Q (cond t (x ∷ filter f xs) (filter f xs))) [ true ↦ (h.0, Each-filter Q f xs h.1) | false ↦ Each-filter Q f xs h.1 ]

  Each-all : (Q : P → Type 0) → ((x : P) → Q x) → (xs : List P) → Each Q xs
  Each-all Q h [] = tt
  Each-all Q h (x ∷ xs) = (h x, Each-all Q h xs)

  pub filter_le : (f : P → Bool) (xs : List P) → length (filter f xs) ≤ length xs
  filter_le f [] = omega arith
  filter_le f (x ∷ xs) = let r = filter_le f xs in elim (f x) as (λ t. length (cond t (x ∷ filter f xs) (filter f xs)) ≤ suc (length xs)) [ true ↦ omega (arith, r) | false ↦ omega (arith, r) ]

  Each-at : (Q : P → Type 0) (xs : List P) (n i : ℕ) (d : P) → Each Q (take n xs) → i < n → i < length xs → Q (get_or xs i d)
  Each-at Q [] n i d h l m = absurd (omega arith)
  Each-at Q (x ∷ xs) zero i d h l m = absurd (omega arith)
  Each-at Q (x ∷ xs) (suc n) zero d h l m = h.0
  Each-at Q (x ∷ xs) (suc n) (suc i) d h l m = Each-at Q xs n i d h.1 (omega arith) (omega arith)

  stays_before : (keep : P → Bool) (first i : ℕ) (d : P) → i < first → keep d ≡ true → stays_at keep first i d ≡ keep d
  stays_before keep first i d l e = rw e (grind (arith, nat_tests))

  stays_first : (keep : P → Bool) (first i : ℕ) (d : P) → i ≡ first → keep d ≡ false → stays_at keep first i d ≡ keep d
  stays_first keep first i d l e = rw e (grind (arith, nat_tests))

  stays_is : (keep : P → Bool) (xs : List P) (first i : ℕ) (d : P) → IsUnwantedAt keep xs first → i < length xs → d ≡ get_or xs i d → stays_at keep first i d ≡ keep d
  stays_is keep xs first i d u l e =
      by_ranked (i < first) (i ≡ first) (first < i) (nat_cmp i first) (ranked i first (nat_cmp i first) refl)
      (λ _ b. stays_before keep first i d b (ap keep e ∙ Each-at (λ p. keep p ≡ true) xs first i d u.before b l))
      (λ _ q. stays_first keep first i d q (ap keep e ∙ ap (λ j. keep (get_or xs j d)) q ∙ u.unwanted d))
      (λ _ a. stays_after first i (keep d) a)

Ascends-filter : {K V : Type 0} (R : K → K → Ordering) (f : K × V → Bool) (xs : List (K × V)) → Ascends R xs → Ascends R (filter f xs)
Ascends-filter R f [] a = tt
Ascends-filter R f (x ∷ xs) a = elim (f x) as (λ t. Ascends R (cond t (x ∷ filter f xs) (filter f xs))) [ true ↦ (Each-filter (λ y. R x.0 y.0 ≡ Less) f xs a.0, Ascends-filter R f xs a.1) | false ↦ Ascends-filter R f xs a.1 ]

-- ---- lists

module _ {P : Type 0} (keep : P → Bool) (xs : List (Arc P Global)) where
  module _ (i : ℕ) (h : i < length xs) (a : Arc P Global) (there : a ≡ get_or xs i a) where
    here : (d : P) → get_or (map arc_value xs) i d ≡ arc_value a
    here d = get_or-map arc_value xs i a d h ∙ ap arc_value (sym there)

    within : i < length (map arc_value xs)
    within = rw (length-map xs arc_value) h

    pub wanted_more : Each (λ p. keep p ≡ true) (take i (map arc_value xs)) → keep (arc_value a) ≡ true → Each (λ p. keep p ≡ true) (take (i + 1) (map arc_value xs))
    wanted_more b e =
        rw (take_more (map arc_value xs) i (arc_value a) within) (Each-append (λ p. keep p ≡ true) (take i (map arc_value xs)) (get_or (map arc_value xs) i (arc_value a) ∷ []) b (ap keep (here (arc_value a)) ∙ e, tt))

    pub unwanted_at : Each (λ p. keep p ≡ true) (take i (map arc_value xs)) → keep (arc_value a) ≡ false → IsUnwantedAt keep (map arc_value xs) i
    unwanted_at b e = record { within = within; before = b; unwanted = λ d. ap keep (here d) ∙ e }

    pub stays_here : (first : ℕ) → IsUnwantedAt keep (map arc_value xs) first → stays_at keep first i (arc_value a) ≡ keep (arc_value a)
    stays_here first u = stays_is keep (map arc_value xs) first i (arc_value a) u within (sym (here (arc_value a)))

    more_is : filter keep (take (i + 1) (map arc_value xs)) ≡ filter keep (take i (map arc_value xs)) ++ cond (keep (arc_value a)) (arc_value a ∷ []) []
    more_is = filter_more keep (map arc_value xs) i (arc_value a) within ∙ ap (λ p. filter keep (take i (map arc_value xs)) ++ cond (keep p) (p ∷ []) []) (here (arc_value a))

    pub kept_more : (ys zs : List (Arc P Global)) (b : Arc P Global) → map arc_value ys ≡ filter keep (take i (map arc_value xs)) → keep (arc_value a) ≡ true → arc_value b ≡ arc_value a → zs ≡ ys ++ b ∷ [] → map arc_value zs ≡ filter keep (take (i + 1) (map arc_value xs))
    kept_more ys zs b e k c z =
        ap (map arc_value) z ∙ map-append arc_value ys (b ∷ []) ∙ rw (e, c) (sym (more_is ∙ rw k refl))

    pub kept_less : (ys : List (Arc P Global)) → map arc_value ys ≡ filter keep (take i (map arc_value xs)) → keep (arc_value a) ≡ false → map arc_value ys ≡ filter keep (take (i + 1) (map arc_value xs))
    kept_less ys e k = e ∙ sym (more_is ∙ rw k (append-nil (filter keep (take i (map arc_value xs)))))

  pub taken_all : (i : ℕ) → length xs ≤ i → take i (map arc_value xs) ≡ map arc_value xs
  taken_all i l = take_all i (map arc_value xs) (rw (length-map xs arc_value) l)

both_tests : (n i : ℕ) (k : Bool) → cond (cond (nat_lt n i) k true) (cond (n == i) k true) false ≡ cond (nat_lt n (i + 1)) k true
both_tests n i true = grind (arith, nat_tests)
both_tests n i false = grind (arith, nat_tests)

below_none : (n : ℕ) (k : Bool) → cond (nat_lt n 0) k true ≡ true
below_none n k = grind (arith, nat_tests)

below_all : (n i : ℕ) (k : Bool) → n < i → cond (nat_lt n i) k true ≡ k
below_all n i k h = grind (arith, nat_tests)

other_test : (n i : ℕ) (k : Bool) → (n == i) ≡ false → cond (n == i) k true ≡ true
other_test n i k h = rw h refl

own_test : (n i : ℕ) (k : Bool) → n ≡ i → cond (n == i) k true ≡ k
own_test n i k h = rw (equal_test n i h) refl

-- ---- children at other indices

module _ {P : Type 0} (i j : ℕ) (l : i < j) where
  child_at-with : (new : Shape P) (slots : Slots P) → child_at j (with_child i new slots) ≡ child_at j slots
  child_at-with new none = grind (arith, nat_tests)
  child_at-with new (more k c slots) = let e = child_at-with new slots in grind (arith, nat_tests)

  child_at-without : (slots : Slots P) → child_at j (without_child i slots) ≡ child_at j slots
  child_at-without none = refl
  child_at-without (more k c slots) = let e = child_at-without slots in grind (arith, nat_tests)

  child_at-changed : (new : Option (Shape P)) (slots : Slots P) → child_at j (with_or_without i new slots) ≡ child_at j slots
  child_at-changed None slots = child_at-without slots
  child_at-changed (Some new) slots = child_at-with new slots

module _ {P : Type 0} where
  without_missing_step : (i j : ℕ) (c : Shape (P)) (slots : Slots (P)) (t : Bool) → cond t (Some c) (child_at i slots) ≡ None → (child_at i slots ≡ None → without_child i slots ≡ slots) → cond t slots (more j c (without_child i slots)) ≡ more j c slots
  without_missing_step i j c slots true h r = cc
  without_missing_step i j c slots false h r = ap (more j c) (r h)

  without_missing : (i : ℕ) (slots : Slots (P)) → child_at i slots ≡ None → without_child i slots ≡ slots
  without_missing i none h = refl
  without_missing i (more j c slots) h = without_missing_step i j c slots (i == j) h (without_missing i slots)

-- ---- the pairs beside those of a child

module _ {K V : Type 0} (cmp : K → K → Ordering) (place : K → ℕ) where
  abbrev IsElsewhere : (left i : ℕ) → List (K × V) → Type 0
  IsElsewhere left i = Each (λ e. (key_index place left e.0 == i) ≡ false)

  -- the pairs before those of a child and behind them
  record IsParted (left i : ℕ) (slots : Slots (K × V)) (child : Shape (K × V)) : Type 0 where
    before : List (K × V)
    after : List (K × V)
    pairs : pairs_in slots ≡ before ++ (pairs_of child ++ after)
    changed : (new : Option (Shape (K × V))) → pairs_in (with_or_without i new slots) ≡ before ++ (node_pairs new ++ after)
    others_before : IsElsewhere left i before
    others_after : IsElsewhere left i after

  parted : (left low i : ℕ) (slots : Slots (K × V)) (child : Shape (K × V)) → AreForms cmp place left low slots → child_at i slots ≡ Some child → IsParted left i slots child
  parted left low i none child f h = cc
  parted left low i (more j c slots) child f h =
      by_ranked (i < j) (i ≡ j) (j < i) (nat_cmp i j) (ranked i j (nat_cmp i j) refl)
      (λ _ l.
      let g : AreForms cmp place left j (more j c slots) = (omega arith, f.1, f.2, f.3) in
      let n = child_at-above cmp place left j i (more j c slots) g l in
      let bad : None ≡ Some child = sym n ∙ h in
      cc)
      (λ _ e.
      let same : c ≡ child = ap (λ o. unwrap_or o c) (sym (child_at-same i j c slots e) ∙ h) in
      record {
        before = [];
        after = pairs_in slots;
        pairs = ap (λ s. pairs_of s ++ pairs_in slots) same;
        changed = changed_same i j c slots e;
        others_before = tt;
        others_after = Each-weaker (λ x. suc j ≤ key_index place left x.0) (λ x. (key_index place left x.0 == i) ≡ false) (λ x m. above_test (key_index place left x.0) i (omega arith)) (pairs_in slots) (AreForms-above cmp place left (suc j) slots f.3);
      })
      (λ _ g.
      let r = parted left (suc j) i slots child f.3 (sym (child_at-greater i j c slots g) ∙ h) in
      record {
        before = pairs_of c ++ r.before;
        after = r.after;
        pairs = ap (λ l. pairs_of c ++ l) r.pairs ∙ sym (append_assoc (pairs_of c) r.before (pairs_of child ++ r.after));
        changed = λ new. changed_greater i j c slots g new ∙ ap (λ l. pairs_of c ++ l) (r.changed new) ∙ sym (append_assoc (pairs_of c) r.before (node_pairs new ++ r.after));
        others_before = Each-append (λ x. (key_index place left x.0 == i) ≡ false) (pairs_of c) r.before (Each-weaker (λ x. key_index place left x.0 ≡ j) (λ x. (key_index place left x.0 == i) ≡ false) (λ x q. grind (arith, nat_tests)) (pairs_of c) f.1) r.others_before;
        others_after = r.others_after;
      })
    where
      changed_same : (i j : ℕ) (c : Shape (K × V)) (slots : Slots (K × V)) → i ≡ j → (new : Option (Shape (K × V))) → pairs_in (with_or_without i new (more j c slots)) ≡ node_pairs new ++ pairs_in slots
      changed_same i j c slots e None = ap pairs_in (without_child-same i j c slots e)
      changed_same i j c slots e (Some new) = ap pairs_in (with_child-same i j new c slots e)

      changed_greater : (i j : ℕ) (c : Shape (K × V)) (slots : Slots (K × V)) → j < i → (new : Option (Shape (K × V))) → pairs_in (with_or_without i new (more j c slots)) ≡ pairs_of c ++ pairs_in (with_or_without i new slots)
      changed_greater i j c slots g None = ap pairs_in (without_child-greater i j c slots g)
      changed_greater i j c slots g (Some new) = ap pairs_in (with_child-greater i j new c slots g)

  missing_step : (left i j : ℕ) (c : Shape (K × V)) (slots : Slots (K × V)) (t : Bool) → (i == j) ≡ t → Each (λ e. key_index place left e.0 ≡ j) (pairs_of c) → cond t (Some c) (child_at i slots) ≡ None → (child_at i slots ≡ None → IsElsewhere left i (pairs_in slots)) → IsElsewhere left i (pairs_of c ++ pairs_in slots)
  missing_step left i j c slots true e a h r = cc
  missing_step left i j c slots false e a h r =
      Each-append (λ x. (key_index place left x.0 == i) ≡ false) (pairs_of c) (pairs_in slots) (Each-weaker (λ x. key_index place left x.0 ≡ j) (λ x. (key_index place left x.0 == i) ≡ false) (λ x q. grind (arith, nat_tests)) (pairs_of c) a) (r h)

  -- no pair has the index of no child
  missing : (left low i : ℕ) (slots : Slots (K × V)) → AreForms cmp place left low slots → child_at i slots ≡ None → IsElsewhere left i (pairs_in slots)
  missing left low i none f h = tt
  missing left low i (more j c slots) f h = missing_step left i j c slots (i == j) refl f.1 h (missing left (suc j) i slots f.3)

-- ---- slots in part

module _ {K V : Type 0} (cmp : K → K → Ordering) (place : K → ℕ) (keep : K × V → Bool) where
  -- wanted, or not below the index
  abbrev below : (left i : ℕ) → K × V → Bool
  below left i p = cond (nat_lt (key_index place left p.0) i) (keep p) true

  -- wanted, or not at the index
  abbrev at : (left i : ℕ) → K × V → Bool
  at left i p = cond (key_index place left p.0 == i) (keep p) true

  -- of the slots those below the index are what is wanted
  pub record IsPartly (left i before gone : ℕ) (all slots : Slots (K × V)) : Type 0 where
    pub forms : AreForms cmp place left 0 slots
    pub later : (j : ℕ) → i ≤ j → child_at j slots ≡ child_at j all
    pub kept : pairs_in slots ≡ filter (below left i) (pairs_in all)
    pub count : gone + length (pairs_in slots) ≡ before + length (pairs_in all)

  pub partly_none : (left before : ℕ) (all : Slots (K × V)) → AreForms cmp place left 0 all → IsPartly left 0 before before all all
  partly_none left before all f =
      record {
        forms = f;
        later = λ j l. refl;
        kept = sym (filter_all (below left 0) (pairs_in all) (Each-all (λ p. below left 0 p ≡ true) (λ p. below_none (key_index place left p.0) (keep p)) (pairs_in all)));
        count = refl;
      }

  pub partly_all : (left i before gone : ℕ) (all slots : Slots (K × V)) → 32 ≤ i → IsPartly left i before gone all slots → pairs_in slots ≡ filter keep (pairs_in all)
  partly_all left i before gone all slots l p =
      p.kept ∙ filter_agree (below left i) keep (λ x. below_all (key_index place left x.0) i (keep x) (omega (arith, index_below left (place x.0)))) (pairs_in all)

  pub partly_count : (left i before gone : ℕ) (all slots : Slots (K × V)) → 32 ≤ i → IsPartly left i before gone all slots → gone + length (filter keep (pairs_in all)) ≡ before + length (pairs_in all)
  partly_count left i before gone all slots l p = omega (arith, p.count, ap length (partly_all left i before gone all slots l p))

  -- what is left of a branch
  pub branch_left : (left i before gone : ℕ) (all slots : Slots (K × V)) (new : Node K V) → 0 < left → 32 ≤ i → IsPartly (left - 1) i before gone all slots → shape_of new ≡ whole slots → IsRetained cmp place keep left (pairs_in all) (Some new)
  branch_left left i before gone all slots new n l p s =
      let f = whole_form cmp place (left - 1) slots p.forms in
      let up : suc (left - 1) ≡ left = omega arith in
      record {
        form = rw s (rw up at f.0);
        kept = ap node_pairs s ∙ f.1 ∙ partly_all (left - 1) i before gone all slots l p;
      }

  -- what is left of a list
  pub list_left : (pairs : List (K × V)) (new : Node K V) → Ascends cmp pairs → shape_of new ≡ listed (filter keep pairs) → IsRetained cmp place keep 0 pairs (Some new)
  list_left pairs new a s =
      let f = listed_form cmp place (filter keep pairs) (Ascends-filter cmp keep pairs a) in
      record { form = rw s f.0; kept = ap node_pairs s ∙ f.1 }

  pub all_left : (left : ℕ) (pairs : List (K × V)) → Each (λ p. keep p ≡ true) pairs → IsRetained cmp place keep left pairs None
  all_left left pairs e = record { form = tt; kept = sym (filter_all keep pairs e) }

  -- nothing has changed
  pub whole_left : (left i before gone : ℕ) (all : Slots (K × V)) → 32 ≤ i → IsPartly (left - 1) i before gone all all → IsRetained cmp place keep left (pairs_in all) None
  whole_left left i before gone all l p = record { form = tt; kept = partly_all (left - 1) i before gone all all l p }

  -- one index more
  further : (left i before gone : ℕ) (all slots : Slots (K × V)) → IsPartly left i before gone all slots → filter (at left i) (pairs_in slots) ≡ filter (below left (i + 1)) (pairs_in all)
  further left i before gone all slots p =
      ap (filter (at left i)) p.kept ∙ merge (at left i) (below left i) (below left (i + 1)) (λ x. both_tests (key_index place left x.0) i (keep x)) (pairs_in all)

  elsewhere : (left i : ℕ) (xs : List (K × V)) → IsElsewhere cmp place left i xs → filter (at left i) xs ≡ xs
  elsewhere left i xs h = filter_all (at left i) xs (Each-weaker (λ x. (key_index place left x.0 == i) ≡ false) (λ x. at left i x ≡ true) (λ x e. other_test (key_index place left x.0) i (keep x) e) xs h)

  partly_missing : (left i before gone : ℕ) (all slots : Slots (K × V)) → IsPartly left i before gone all slots → child_at i all ≡ None → IsPartly left (i + 1) before gone all slots
  partly_missing left i before gone all slots p h =
      record {
        forms = p.forms;
        later = λ j l. p.later j (omega arith);
        kept = sym (elsewhere left i (pairs_in slots) (missing cmp place left 0 i slots p.forms (p.later i (omega arith) ∙ h))) ∙ further left i before gone all slots p;
        count = p.count;
      }

  -- what the child at the index leaves of the slots
  filter_at : (left i : ℕ) (slots : Slots (K × V)) (child : Shape (K × V)) → Each (λ e. key_index place left e.0 ≡ i) (pairs_of child) → (r : IsParted cmp place left i slots child) → filter (at left i) (pairs_in slots) ≡ r.before ++ (filter keep (pairs_of child) ++ r.after)
  filter_at left i slots child own r =
      let a = filter_same (at left i) keep (pairs_of child) (Each-weaker (λ e. key_index place left e.0 ≡ i) (λ e. at left i e ≡ keep e) (λ e q. own_test (key_index place left e.0) i (keep e) q) (pairs_of child) own) in
      ap (filter (at left i)) r.pairs
      ∙ filter-append (at left i) r.before (pairs_of child ++ r.after)
      ∙ ap (λ l. l ++ filter (at left i) (pairs_of child ++ r.after)) (elsewhere left i r.before r.others_before)
      ∙ ap (λ l. r.before ++ l) (filter-append (at left i) (pairs_of child) r.after ∙ ap (λ l. l ++ filter (at left i) r.after) a ∙ ap (λ l. filter keep (pairs_of child) ++ l) (elsewhere left i r.after r.others_after))

  module _ (left i before gone : ℕ) (all slots : Slots (K × V)) (p : IsPartly left i before gone all slots) where
    module _ (child : Shape (K × V)) (there : child_at i all ≡ Some child) where
      found : child_at i slots ≡ Some child
      found = p.later i (omega arith) ∙ there

      own : IsForm cmp place left child × Each (λ e. key_index place left e.0 ≡ i) (pairs_of child)
      own = form_at cmp place left 0 i slots child p.forms found

      parts : IsParted cmp place left i slots child
      parts = parted cmp place left 0 i slots child p.forms found

      some_count : gone + length (pairs_of child) ≤ before + length (pairs_in all)
      some_count = omega (arith, p.count, ap length parts.pairs, length-append parts.before (pairs_of child ++ parts.after), length-append (pairs_of child) parts.after)

      some_whole : (sum : ℕ) → pairs_of child ≡ filter keep (pairs_of child) → sum + length (filter keep (pairs_of child)) ≡ gone + length (pairs_of child) → IsPartly left (i + 1) before sum all slots
      some_whole sum e n =
          record {
            forms = p.forms;
            later = λ j l. p.later j (omega arith);
            kept = parts.pairs ∙ ap (λ l. parts.before ++ (l ++ parts.after)) e ∙ sym (filter_at left i slots child own.1 parts) ∙ further left i before gone all slots p;
            count = omega (arith, p.count, n, ap length e);
          }

      changed_forms : (new : Option (Shape (K × V))) → IsNode cmp place left new → node_pairs new ≡ filter keep (pairs_of child) → AreForms cmp place left 0 (with_or_without i new slots)
      changed_forms None f e = AreForms-without_child cmp place left 0 i slots p.forms
      changed_forms (Some new) f e = AreForms-with_child cmp place left 0 i slots new p.forms (omega arith) (rw e (Each-filter (λ x. key_index place left x.0 ≡ i) keep (pairs_of child) own.1)) f

      some_changed : (sum : ℕ) (new : Option (Shape (K × V))) → IsNode cmp place left new → node_pairs new ≡ filter keep (pairs_of child) → sum + length (filter keep (pairs_of child)) ≡ gone + length (pairs_of child) → IsPartly left (i + 1) before sum all (with_or_without i new slots)
      some_changed sum new f e n =
          let made = parts.changed new ∙ ap (λ l. parts.before ++ (l ++ parts.after)) e in
          record {
            forms = changed_forms new f e;
            later = λ j l. child_at-changed i j (omega arith) new slots ∙ p.later j (omega arith);
            kept = made ∙ sym (filter_at left i slots child own.1 parts) ∙ further left i before gone all slots p;
            count =
                omega (
                  arith,
                  p.count,
                  n,
                  ap length made,
                  ap length parts.pairs,
                  length-append parts.before (pairs_of child ++ parts.after),
                  length-append (pairs_of child) parts.after,
                  length-append parts.before (filter keep (pairs_of child) ++ parts.after),
                  length-append (filter keep (pairs_of child)) parts.after,
                );
          }

    -- the child at the index, whether there is one or none
    pub child_is_form : (child : Option (Shape (K × V))) → child_at i all ≡ child → IsNode cmp place left child
    child_is_form child there = (child_form cmp place left i slots child p.forms (p.later i (omega arith) ∙ there)).0

    pub child_count : (child : Option (Shape (K × V))) → child_at i all ≡ child → gone + length (node_pairs child) ≤ before + length (pairs_in all)
    child_count None there = omega (arith, p.count)
    child_count (Some child) there = some_count child there

    -- nothing of it goes
    pub partly_whole : (child : Option (Shape (K × V))) (sum : ℕ) → child_at i all ≡ child → node_pairs child ≡ filter keep (node_pairs child) → sum + length (filter keep (node_pairs child)) ≡ gone + length (node_pairs child) → IsPartly left (i + 1) before sum all slots
    partly_whole None sum there e n =
        let same : gone ≡ sum = omega (arith, n) in
        rw (← same) (partly_missing left i before gone all slots p there)
    partly_whole (Some child) sum there e n = some_whole child there sum e n

    -- this is left of it
    pub partly_changed : (child new : Option (Shape (K × V))) (sum : ℕ) → child_at i all ≡ child → IsNode cmp place left new → node_pairs new ≡ filter keep (node_pairs child) → sum + length (filter keep (node_pairs child)) ≡ gone + length (node_pairs child) → IsPartly left (i + 1) before sum all (with_or_without i new slots)
    partly_changed None None sum there f e n =
        let same : gone ≡ sum = omega (arith, n) in
        rw (← same, without_missing i slots (p.later i (omega arith) ∙ there)) (partly_missing left i before gone all slots p there)
    partly_changed None (Some new) sum there f e n = absurd (let some = form_some cmp place left new f in omega (arith, some, ap length e))
    partly_changed (Some child) new sum there f e n = some_changed child there sum new f e n

-- the children with another node at an index
pub slots_changed : {K V : Type 0} (i : ℕ) (old new : List (Node K V)) (node : Node K V) → i < length old → map shape_of new ≡ set (map shape_of old) i (shape_of node) → (length new ≡ length old) × (child_slots new ≡ with_or_without i (shape_of node) (child_slots old))
slots_changed i old new node l e =
    let mapped : i < length (map shape_of old) = rw (length-map old shape_of) l in (
      sym (length-map new shape_of) ∙ ap length e ∙ length-set (map shape_of old) i (shape_of node) ∙ length-map old shape_of,
      ap (slots_from 0) e ∙ slots_from-set i 0 i (map shape_of old) (shape_of node) (omega arith) mapped,
    )

-- ---- what pairs of one place make

pub not_empty : (m n : ℕ) → m ≡ n → false ≡ (m == 0) → 0 < n
not_empty m zero e h = grind (arith, nat_tests)
not_empty m (suc n) e h = omega arith

pub listed_many : {A P : Type 0} (f : A → P) (xs : List A) → 0 < length xs → ((x : A) → xs ≡ x ∷ [] → ⊥) → Some (row (map f xs)) ≡ listed (map f xs)
listed_many f [] n h = absurd (omega arith)
listed_many f (x ∷ []) n h = absurd (h x refl)
listed_many f (x ∷ y ∷ xs) n h = refl

-- ---- what is found of what stays

module _ {K V : Type 0} {R : K → K → Ordering} (total : IsTotalOrder R) (wanted : K → V → Bool) (q : K) where
  lookup-kept_step : (e : K × V) (es : List (K × V)) (t : Bool) → is_eq (R q e.0) ≡ t → (k : Bool) → is_wanted wanted e ≡ k → Each (λ f. R e.0 f.0 ≡ Less) es → lookup (is_at (R q)) (filter (is_wanted wanted) es) ≡ wanted_value wanted (find (λ p. is_at (R q) p.0) es) → lookup (is_at (R q)) (cond k (e ∷ filter (is_wanted wanted) es) (filter (is_wanted wanted) es)) ≡ wanted_value wanted (cond t (Some e) (find (λ p. is_at (R q) p.0) es))
  lookup-kept_step e es true a true b h r = rw (a, b) refl
  lookup-kept_step e es true a false b h r = rw b (past_first total q q e (filter (is_wanted wanted) es) (equal_from_is_eq (R q e.0) a) (Each-filter (λ f. R e.0 f.0 ≡ Less) (is_wanted wanted) es h))
  lookup-kept_step e es false a true b h r = rw a r
  lookup-kept_step e es false a false b h r = r

  lookup-kept : (es : List (K × V)) → Ascends R es → lookup (is_at (R q)) (filter (is_wanted wanted) es) ≡ wanted_value wanted (find (λ p. is_at (R q) p.0) es)
  lookup-kept [] a = refl
  lookup-kept (e ∷ es) a = lookup-kept_step e es (is_eq (R q e.0)) refl (is_wanted wanted e) refl a.0 (lookup-kept es a.1)

module _ {K V : Type 0} {cmp : K → K → Ordering} (total : IsTotalOrder cmp) (place : K → ℕ) (respects : (a b : K) → cmp a b ≡ Equal → place a ≡ place b) (left : ℕ) (q : K) where
  find_in_order : (es : List (K × V)) → find (λ p. is_at (order cmp place left q) p.0) es ≡ find (λ p. is_at (cmp q) p.0) es
  find_in_order [] = refl
  find_in_order (e ∷ es) = rw (is_at-order cmp place respects left q e.0, find_in_order es) refl

  pub lookup-retain : (wanted : K → V → Bool) (es : List (K × V)) → Ascends (order cmp place left) es → lookup (is_at (cmp q)) (filter (is_wanted wanted) es) ≡ wanted_value wanted (find (λ p. is_at (cmp q) p.0) es)
  lookup-retain wanted es a =
      sym (found_in_order total place respects left q q (filter (is_wanted wanted) es))
      ∙ lookup-kept (order_total total place left) wanted q es a
      ∙ ap (wanted_value wanted) (find_in_order es)
