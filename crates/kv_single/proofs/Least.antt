-- The least number of an open watch that is behind a floor, and the highest floor that none is behind.
use Rattle.std.proofs.Common.{◌≡◌, ℕ, ◌+◌, ◌<◌, ◌≤◌, Bool, true, false, cond, ◌||◌, ◌&&◌, ◌==◌, min, nat_lt, List, [], ◌∷◌, ◌++◌, Option, Some, None, Ok, Err, inl, inr, ◌⊎◌, ⊎_elim, length, get_or, take, map, refl, sym, ap, ◌∙◌, subst, arith}
use Rattle.std.specs.Prelude.{is_some, nat_le}
use Rattle.std.specs.List.{Contains, list_any}
use Rattle.std.specs.Option.{option_map_or}
use Rattle.std.proofs.lemmas.Bool.{and_parts, leb-true, leb-false, eqb-true, ltb-true, ltb-false, lt-ltb}
use Rattle.std.proofs.lemmas.Bool.Decides.{nat_tests}
use Rattle.std.proofs.lemmas.List.{map-append, take_more}
use Rattle.std.proofs.lemmas.List.Folds.{list_any-append}
use Rattle.kv_keys.specs.declared.error.KvError.{KvError}
use Rattle.kv_keys.specs.declared.error.KvError.TheVariants.{BadFloor, WatchBehind}
use Rattle.kv_model.specs.Acts.{Act, Compact, writes_of, floor_of}
use Rattle.kv_model.specs.Answers.{Compacted}
use Rattle.kv_model.specs.Compaction.{is_bad_floor}
use Rattle.kv_model.specs.Given.{is_behind}
use Rattle.kv_model.specs.State.{State, Watch, watch_at, watch_behind, open_at, first_behind, unless_behind, may_compact, after, answer_to}
use Rattle.kv_model.specs.declared.call.Call.TheVariants as ask
use Rattle.kv_model.proofs.Behind.{compacts_to, first_is_behind, none_is_behind}
use Rattle.kv_model.proofs.Members.{Contains-cases, Contains-here, Contains-none, Contains-there}
use Rattle.kv_model.proofs.Numbers.{open_is}
use Rattle.kv_model.proofs.Storing.{good_floor}
use Rattle.kv_store.specs.Standing.{StandsFor}
use Rattle.kv_store.specs.Stored.{Stored}
use Rattle.kv_single.specs.Held.{Holding, Bucketed, IsHeld, Represents, has_number, held_at}
use Rattle.kv_single.specs.inside.Behind.{behind_at, least_from, lesser}
use Rattle.kv_single.proofs.Later.{later}
use Rattle.kv_single.proofs.Representing.{none_behind_floor, represents_later}

-- ---- the least number that passes a test

least-push : (test : ℕ → Bool) (least : Option ℕ) (ns : List ℕ) (n : ℕ) → least_from test least (ns ++ n ∷ []) ≡ cond (test n) (Some (lesser (least_from test least ns) n)) (least_from test least ns)
least-push test least [] n = refl
least-push test least (m ∷ ns) n = least-push test (cond (test m) (Some (lesser least m)) least) ns n

min_either : (a b : ℕ) → (min a b ≡ a) ⊎ (min a b ≡ b)
min_either a b = by_test (nat_le a b) refl
  where
    by_test : (t : Bool) → nat_le a b ≡ t → (min a b ≡ a) ⊎ (min a b ≡ b)
    by_test true e = let l = leb-true a b e in inl (omega (arith, l))
    by_test false e = let l = leb-false a b e in inr (omega (arith, l))

-- what it is, where it has this one so far
record IsLeast (test : ℕ → Bool) (so_far : Option ℕ) (ns : List ℕ) (m : ℕ) : Type 0 where
  passes : test m ≡ true
  before : (k : ℕ) → so_far ≡ Some k → m ≤ k
  least : (n : ℕ) → Contains ns n → test n ≡ true → m ≤ n

least_some : (test : ℕ → Bool) (so_far : Option ℕ) (ns : List ℕ) (m : ℕ) → ((k : ℕ) → so_far ≡ Some k → test k ≡ true) → least_from test so_far ns ≡ Some m → IsLeast test so_far ns m
least_some test so_far [] m h e = record {
  passes = h m e;
  before = λ k f. let g : Some k ≡ Some m = sym f ∙ e in let same : k ≡ m = cc in omega (arith, same);
  least = λ n c t. absurd (Contains-none n c);
}
least_some test so_far (n ∷ ns) m h e = by_test (test n) refl (λ o k f. least_some test o ns m k f) e
  where
    lesser_passes : (o : Option ℕ) → test n ≡ true → ((k : ℕ) → o ≡ Some k → test k ≡ true) → test (lesser o n) ≡ true
    lesser_passes None t k = t
    lesser_passes (Some j) t k = ⊎_elim (λ f. ap test f ∙ k j refl) (λ f. ap test f ∙ t) (min_either j n)

    lesser_low : (o : Option ℕ) → (lesser o n ≤ n) × ((k : ℕ) → o ≡ Some k → lesser o n ≤ k)
    lesser_low None = (omega arith, λ k f. cc)
    lesser_low (Some j) = (omega arith, λ k f. let same : j ≡ k = cc in omega (arith, same))

    by_test : (b : Bool) → test n ≡ b → ((o : Option ℕ) → ((k : ℕ) → o ≡ Some k → test k ≡ true) → least_from test o ns ≡ Some m → IsLeast test o ns m) → least_from test (cond b (Some (lesser so_far n)) so_far) ns ≡ Some m → IsLeast test so_far (n ∷ ns) m
    by_test true t rest f =
        let low = lesser_low so_far in
        let deeper = rest (Some (lesser so_far n)) (λ k g. let same : lesser so_far n ≡ k = cc in ap test (sym same) ∙ lesser_passes so_far t h) f in
        let bound : m ≤ lesser so_far n = deeper.before (lesser so_far n) refl in
        record {
          passes = deeper.passes;
          before = λ k g. let l = low.1 k g in omega (arith, bound, l);
          least = λ j c u. ⊎_elim (λ same. omega (arith, bound, low.0, same)) (λ d. deeper.least j d u) (Contains-cases n ns j c);
        }
    by_test false t rest f =
        let deeper = rest so_far h f in
        record {
          passes = deeper.passes;
          before = deeper.before;
          least = λ j c u. ⊎_elim (λ same. let v : test n ≡ true = ap test same ∙ u in let clash : false ≡ true = sym t ∙ v in absurd cc) (λ d. deeper.least j d u) (Contains-cases n ns j c);
        }

least_none : (test : ℕ → Bool) (so_far : Option ℕ) (ns : List ℕ) → least_from test so_far ns ≡ None → (so_far ≡ None) × ((n : ℕ) → Contains ns n → test n ≡ false)
least_none test so_far [] e = (e, λ n c. absurd (Contains-none n c))
least_none test so_far (n ∷ ns) e = by_test (test n) refl (λ o f. least_none test o ns f) e
  where
    by_test : (b : Bool) → test n ≡ b → ((o : Option ℕ) → least_from test o ns ≡ None → (o ≡ None) × ((k : ℕ) → Contains ns k → test k ≡ false)) → least_from test (cond b (Some (lesser so_far n)) so_far) ns ≡ None
        → (so_far ≡ None) × ((k : ℕ) → Contains (n ∷ ns) k → test k ≡ false)
    by_test true t rest f = let deeper = rest (Some (lesser so_far n)) f in let clash = deeper.0 in cc
    by_test false t rest f =
        let deeper = rest so_far f in (deeper.0, λ k c. ⊎_elim (λ same. ap test (sym same) ∙ t) (λ d. deeper.1 k d) (Contains-cases n ns k c))

any_some : (test : ℕ → Bool) (ns : List ℕ) → list_any test ns ≡ true → (n : ℕ) × (test n ≡ true)
any_some test [] e = cc
any_some test (n ∷ ns) e = by_test (test n) refl (λ k. any_some test ns k) e
  where
    by_test : (b : Bool) → test n ≡ b → (list_any test ns ≡ true → (k : ℕ) × (test k ≡ true)) → (b || list_any test ns) ≡ true → (k : ℕ) × (test k ≡ true)
    by_test true t rest k = (n, t)
    by_test false t rest k = rest k

any_here : (test : ℕ → Bool) (ns : List ℕ) (n : ℕ) → Contains ns n → test n ≡ true → list_any test ns ≡ true
any_here test [] n c t = absurd (Contains-none n c)
any_here test (m ∷ ns) n c t = ⊎_elim (λ same. first (ap test same ∙ t)) (λ d. behind (test m) (any_here test ns n d t)) (Contains-cases m ns n c)
  where
    first : test m ≡ true → (test m || list_any test ns) ≡ true
    first e = rw e refl

    behind : (b : Bool) → list_any test ns ≡ true → (b || list_any test ns) ≡ true
    behind true e = refl
    behind false e = e

-- ---- the open watches, and what is held of them

abbrev pub numbers : List Holding → List ℕ
numbers held = map (λ (h : Holding). h.number) held

listed_held : (xs : List Holding) (n : ℕ) (held : Holding) → held_at n xs ≡ Some held → Contains (numbers xs) n
listed_held [] n held e = cc
listed_held (x ∷ xs) n held e = by_test (has_number n x) refl (λ f. listed_held xs n held f) e
  where
    by_test : (b : Bool) → has_number n x ≡ b → (held_at n xs ≡ Some held → Contains (numbers xs) n) → cond b (Some x) (held_at n xs) ≡ Some held → Contains (numbers (x ∷ xs)) n
    by_test true t rest f = subst (Contains (numbers (x ∷ xs))) (eqb-true x.number n t) (Contains-here x.number (numbers xs))
    by_test false t rest f = Contains-there x.number (numbers xs) n (rest f)

listed : (state : State) (bucket : Bucketed) → Represents state bucket → (n : ℕ) (w : Watch) → open_at n state ≡ Some w → Contains (numbers bucket.watches) n
listed state bucket r n w is = by_held (held_at n bucket.watches) refl (subst (IsHeld state.acts bucket.version (held_at n bucket.watches)) is (r.held n))
  where
    by_held : (o : Option Holding) → held_at n bucket.watches ≡ o → IsHeld state.acts bucket.version o (Some w) → Contains (numbers bucket.watches) n
    by_held None e h = absurd h
    by_held (Some held) e h = listed_held bucket.watches n held e

-- an open watch that is behind
behind_open : (floor : ℕ) (state : State) (n : ℕ) → behind_at floor state n ≡ true → (w : Watch) × (watch_at n state.watches ≡ Some w) × (watch_behind floor state.config.history state.acts w ≡ true)
behind_open floor state n t = by_open (open_at n state) refl t
  where
    by_open : (o : Option Watch) → open_at n state ≡ o → option_map_or (watch_behind floor state.config.history state.acts) o false ≡ true → (w : Watch) × (watch_at n state.watches ≡ Some w) × (watch_behind floor state.config.history state.acts w ≡ true)
    by_open None e u = cc
    by_open (Some w) e u = (w, (open_is (watch_at n state.watches) w e).0, u)

open_behind : (floor : ℕ) (state : State) (n : ℕ) (w : Watch) → watch_at n state.watches ≡ Some w → watch_behind floor state.config.history state.acts w ≡ true → (open_at n state ≡ Some w) × (behind_at floor state n ≡ true)
open_behind floor state n w at t =
    let opens = (and_parts w.is_open (is_behind floor w.handed state.config.history w.began state.acts w.filters w.options) t).0 in
    let is : open_at n state ≡ Some w = rw (at, opens) refl in
    (is, ap (λ o. option_map_or (watch_behind floor state.config.history state.acts) o false) is ∙ t)

-- ---- the first that is behind

pub first_is_least : (floor : ℕ) (state : State) (bucket : Bucketed) → Represents state bucket → least_from (behind_at floor state) None (numbers bucket.watches) ≡ first_behind 1 floor state.config.history state.acts state.watches
first_is_least floor state bucket r = both (least_from (behind_at floor state) None (numbers bucket.watches)) refl (first_behind 1 floor state.config.history state.acts state.watches) refl
  where
    both : (a : Option ℕ) → least_from (behind_at floor state) None (numbers bucket.watches) ≡ a → (b : Option ℕ) → first_behind 1 floor state.config.history state.acts state.watches ≡ b → a ≡ b
    both None e None f = refl
    both None e (Some k) f =
        let first = (first_is_behind floor k state f).0 in
        let here = open_behind floor state k first.0 first.1 first.2 in
        let none = (least_none (behind_at floor state) None (numbers bucket.watches) e).1 k (listed state bucket r k first.0 here.0) in
        let clash : false ≡ true = sym none ∙ here.1 in cc
    both (Some m) e None f =
        let least = least_some (behind_at floor state) None (numbers bucket.watches) m (λ k g. cc) e in
        let found = behind_open floor state m least.passes in
        let clash : false ≡ true = sym (none_is_behind floor state f m found.0 found.1) ∙ found.2 in cc
    both (Some m) e (Some k) f =
        let least = least_some (behind_at floor state) None (numbers bucket.watches) m (λ j g. cc) e in
        let found = behind_open floor state m least.passes in
        let first = first_is_behind floor k state f in
        let here = open_behind floor state k first.0.0 first.0.1 first.0.2 in
        let low : m ≤ k = least.least k (listed state bucket r k first.0.0 here.0) here.1 in
        let not_less : m < k → ⊥ = λ l. let clash : false ≡ true = sym (first.1 m found.0 l found.1) ∙ found.2 in cc in
        ap Some (omega (arith, low, not_less))

pub first_is_any : (floor : ℕ) (state : State) (bucket : Bucketed) → Represents state bucket → is_some (first_behind 1 floor state.config.history state.acts state.watches) ≡ list_any (behind_at floor state) (numbers bucket.watches)
first_is_any floor state bucket r = both (first_behind 1 floor state.config.history state.acts state.watches) refl (list_any (behind_at floor state) (numbers bucket.watches)) refl
  where
    both : (o : Option ℕ) → first_behind 1 floor state.config.history state.acts state.watches ≡ o → (b : Bool) → list_any (behind_at floor state) (numbers bucket.watches) ≡ b → is_some o ≡ b
    both None f false e = refl
    both None f true e =
        let some = any_some (behind_at floor state) (numbers bucket.watches) e in
        let found = behind_open floor state some.0 some.1 in
        let clash : false ≡ true = sym (none_is_behind floor state f some.0 found.0 found.1) ∙ found.2 in cc
    both (Some k) f true e = refl
    both (Some k) f false e =
        let first = (first_is_behind floor k state f).0 in
        let here = open_behind floor state k first.0 first.1 first.2 in
        let clash : false ≡ true = sym e ∙ any_here (behind_at floor state) (numbers bucket.watches) k (listed state bucket r k first.0 here.0) here.1 in cc

-- ---- the loops

numbers_more : (items : List Holding) (i : ℕ) (held : Holding) → i < length items → held ≡ get_or items i held → numbers (take (i + 1) items) ≡ numbers (take i items) ++ held.number ∷ []
numbers_more items i held l e =
    ap numbers (take_more items i held l ∙ ap (λ h. take i items ++ h ∷ []) (sym e)) ∙ map-append (λ (h : Holding). h.number) (take i items) (held ∷ [])

pub first_more : (test : ℕ → Bool) (items : List Holding) (i : ℕ) (held : Holding) (first next : Option ℕ) → i < length items → held ≡ get_or items i held
    → first ≡ least_from test None (numbers (take i items)) → next ≡ cond (test held.number) (Some (lesser first held.number)) first → next ≡ least_from test None (numbers (take (i + 1) items))
first_more test items i held first next l e so_far is =
    is
    ∙ ap (λ o. cond (test held.number) (Some (lesser o held.number)) o) so_far
    ∙ sym (ap (least_from test None) (numbers_more items i held l e) ∙ least-push test None (numbers (take i items)) held.number)

pub reach_more : (test : ℕ → Bool) (items : List Holding) (i : ℕ) (held : Holding) (floor reach one next : ℕ) → i < length items → held ≡ get_or items i held
    → list_any test (numbers (take i items)) ≡ nat_lt reach floor → test held.number ≡ nat_lt one floor → next ≡ min reach one → list_any test (numbers (take (i + 1) items)) ≡ nat_lt next floor
reach_more test items i held floor reach one next l e so_far here is =
    ap (list_any test) (numbers_more items i held l e)
    ∙ list_any-append test (numbers (take i items)) (held.number ∷ [])
    ∙ ap (λ t. t || (test held.number || false)) so_far
    ∙ ap (λ t. nat_lt reach floor || (t || false)) here
    ∙ either_less
    ∙ ap (λ k. nat_lt k floor) (sym is)
  where
    both_no : (a b f : ℕ) → f ≤ a → f ≤ b → nat_lt (min a b) f ≡ false
    both_no a b f l k = grind (arith, nat_tests)

    by_test : (s t : Bool) → nat_lt reach floor ≡ s → nat_lt one floor ≡ t → (s || (t || false)) ≡ nat_lt (min reach one) floor
    by_test true t e f = let k = ltb-true reach floor e in sym (lt-ltb (min reach one) floor (omega (arith, k)))
    by_test false true e f = let k = ltb-true one floor f in sym (lt-ltb (min reach one) floor (omega (arith, k)))
    by_test false false e f = sym (both_no reach one floor (ltb-false reach floor e) (ltb-false one floor f))

    either_less : (nat_lt reach floor || (nat_lt one floor || false)) ≡ nat_lt (min reach one) floor
    either_less = by_test (nat_lt reach floor) (nat_lt one floor) refl refl

pub not_less : (a b : ℕ) → b ≤ a → nat_lt a b ≡ false
not_less a b l = grind (arith, nat_tests)

-- ---- what may be compacted

pub bad_is : (floor : ℕ) (state : State) → is_bad_floor floor state.acts ≡ true → may_compact floor state ≡ Err BadFloor
bad_is floor state t = rw t refl

pub may_is : (floor : ℕ) (state : State) (o : Option ℕ) → is_bad_floor floor state.acts ≡ false → first_behind 1 floor state.config.history state.acts state.watches ≡ o → may_compact floor state ≡ unless_behind floor o
may_is floor state o good e = rw good (ap (unless_behind floor) e)

good_is : (floor : ℕ) (acts : List Act) → 0 < floor → floor ≤ length (writes_of acts) → floor_of acts ≤ floor → is_bad_floor floor acts ≡ false
good_is floor acts some low high = by_test (floor == 0) refl (nat_lt (length (writes_of acts)) floor) refl (nat_lt floor (floor_of acts)) refl
  where
    by_test : (a : Bool) → (floor == 0) ≡ a → (b : Bool) → nat_lt (length (writes_of acts)) floor ≡ b → (c : Bool) → nat_lt floor (floor_of acts) ≡ c → (a || (b || c)) ≡ false
    by_test true e b f c g = let zero : floor ≡ 0 = eqb-true floor 0 e in absurd (omega (arith, zero, some))
    by_test false e true f c g = let l = ltb-true (length (writes_of acts)) floor f in absurd (omega (arith, l, low))
    by_test false e false f true g = let l = ltb-true floor (floor_of acts) g in absurd (omega (arith, l, high))
    by_test false e false f false g = refl

-- the least reach is a floor that is not refused, and each higher one is
module _ (state : State) (bucket : Bucketed) (r : Represents state bucket) (reach : ℕ) (within : reach ≤ length (writes_of state.acts))
    (tells : (floor : ℕ) → floor ≤ length (writes_of state.acts) → is_some (first_behind 1 floor state.config.history state.acts state.watches) ≡ nat_lt reach floor) where
  none_first : (floor : ℕ) (o : Option ℕ) → first_behind 1 floor state.config.history state.acts state.watches ≡ o → is_some o ≡ false → o ≡ None
  none_first floor None e t = refl
  none_first floor (Some k) e t = cc

  -- no open watch is behind the floor so far
  floor_low : floor_of state.acts ≤ length (writes_of state.acts) → floor_of state.acts ≤ reach
  floor_low low = by_first (first_behind 1 (floor_of state.acts) state.config.history state.acts state.watches) refl (tells (floor_of state.acts) low)
    where
      by_first : (o : Option ℕ) → first_behind 1 (floor_of state.acts) state.config.history state.acts state.watches ≡ o → is_some o ≡ nat_lt reach (floor_of state.acts) → floor_of state.acts ≤ reach
      by_first None e t = ltb-false reach (floor_of state.acts) (sym t)
      by_first (Some k) e t =
          let first = (first_is_behind (floor_of state.acts) k state e).0 in
          let here = open_behind (floor_of state.acts) state k first.0 first.1 first.2 in
          let behind = (and_parts first.0.is_open (is_behind (floor_of state.acts) first.0.handed state.config.history first.0.began state.acts first.0.filters first.0.options) first.2).1 in
          let ahead = ap (λ f. is_behind f first.0.handed state.config.history first.0.began state.acts first.0.filters first.0.options) (sym r.version.floor) ∙ none_behind_floor state bucket r k first.0 here.0 in
          let clash : false ≡ true = sym ahead ∙ behind in cc

  pub reach_allowed : floor_of state.acts ≤ length (writes_of state.acts) → 0 < reach → may_compact reach state ≡ Ok reach
  reach_allowed low some =
      let o = first_behind 1 reach state.config.history state.acts state.watches in
      let none : o ≡ None = none_first reach o refl (tells reach within ∙ not_less reach reach (omega arith)) in
      may_is reach state None (good_is reach state.acts some within (floor_low low)) none

  pub reach_highest : (floor : ℕ) → reach < floor → (e : KvError) × (may_compact floor state ≡ Err e)
  reach_highest floor over = by_bad (is_bad_floor floor state.acts) refl (first_behind 1 floor state.config.history state.acts state.watches) refl
    where
      by_bad : (b : Bool) → is_bad_floor floor state.acts ≡ b → (o : Option ℕ) → first_behind 1 floor state.config.history state.acts state.watches ≡ o → (e : KvError) × (may_compact floor state ≡ Err e)
      by_bad true t o f = (BadFloor, bad_is floor state t)
      by_bad false t (Some k) f = (WatchBehind k, may_is floor state (Some k) t f)
      by_bad false t None f =
          let low = (good_floor floor state.acts t).0 in
          let clash : false ≡ true = ap is_some (sym f) ∙ tells floor low ∙ lt-ltb reach floor over in cc

-- ---- a compaction that is made

pub compact_done : (state : State) (bucket : Bucketed) (floor : ℕ) (version : Stored) → Represents state bucket → may_compact floor state ≡ Ok floor → version.config ≡ bucket.version.config → StandsFor (state.acts ++ Compact floor ∷ []) version → version.floor ≡ floor
    → (Compacted floor ≡ answer_to state (ask.Compact floor)) × Represents (after state (ask.Compact floor)) (record bucket { version = version })
compact_done state bucket floor version r may same stands is =
    let made = compacts_to floor floor state may in
    rw may (
      refl,
      represents_later later state bucket (Compact floor) version r same stands
          (omega (arith, is, (good_floor floor state.acts made.1).0))
          (λ number w opens. let there = open_is (watch_at number state.watches) w opens in
          ap (λ f. is_behind f w.handed state.config.history w.began state.acts w.filters w.options) is ∙ by_open w (made.2 number w there.0) there.1),
    )
  where
    by_open : (w : Watch) → watch_behind floor state.config.history state.acts w ≡ false → w.is_open ≡ true → is_behind floor w.handed state.config.history w.began state.acts w.filters w.options ≡ false
    by_open w e t = ap (λ b. b && is_behind floor w.handed state.config.history w.began state.acts w.filters w.options) (sym t) ∙ e
