-- One request more is dealt.
use Rattle.std.proofs.Common.{◌≡◌, ◌≢◌, ℕ, zero, suc, ◌+◌, ◌%◌, ◌==◌, ◌<◌, ◌≤◌, true, cond, List, [], ◌∷◌, ◌++◌, length, map, set, get_or, replicate, append-nil, arith, refl, sym, ap, ◌∙◌, inl, inr}
use Rattle.std.specs.List.{range_with_len}
use Rattle.std.proofs.lemmas.Bool.{cases_Bool, ne_eqb}
use Rattle.std.proofs.lemmas.List.FromFn.{get_or-map-range_with_len, length-map-range_with_len}
use Rattle.std.proofs.lemmas.List.{length-map, map-set}
use Rattle.std.proofs.Math.Nat.{mod-lt}
use Rattle.kv_run.specs.Dealing.{dealt, dealt_to}

eqb-true : (a b : ℕ) → a ≡ b → (a == b) ≡ true
eqb-true a b e = grind (arith, e)

-- behind others
dealt_to-append : {X : Type 0} (workers worker index : ℕ) (xs : List X) (x : X)
    → dealt_to workers worker index (xs ++ x ∷ []) ≡ dealt_to workers worker index xs ++ cond (((index + length xs) % workers) == worker) (x ∷ []) []
dealt_to-append {X} workers worker index [] x =
    let same : index + 0 ≡ index = omega arith in rw same refl
dealt_to-append {X} workers worker index (y ∷ ys) x =
    let same : index + suc (length ys) ≡ (index + 1) + length ys = omega arith in
    let rest = dealt_to-append workers worker (index + 1) ys x in
    elim (cases_Bool ((index % workers) == worker)) [
      | inl here ↦ rw (here, same) (ap (λ t. y ∷ t) rest)
      | inr there ↦ rw (there, same) rest
    ]

same_range : {X : Type 0} (f g : ℕ → X) (a n : ℕ) → ((j : ℕ) → a ≤ j → f j ≡ g j) → map f (range_with_len a n) ≡ map g (range_with_len a n)
same_range {X} f g a zero same = refl
same_range {X} f g a (suc n) same =
    ap (λ x. x ∷ map f (range_with_len (a + 1) n)) (same a (omega arith))
    ∙ ap (λ xs. g a ∷ xs) (same_range f g (a + 1) n (λ j h. same j (omega (arith, h))))

-- one of many changes
set_range : {X : Type 0} (f g : ℕ → X) (y : X) (a n i : ℕ) → ((j : ℕ) → j ≢ a + i → f j ≡ g j) → g (a + i) ≡ y → set (map f (range_with_len a n)) i y ≡ map g (range_with_len a n)
set_range {X} f g y a zero zero same here = refl
set_range {X} f g y a zero (suc i) same here = refl
set_range {X} f g y a (suc n) zero same here =
    let at : a + 0 ≡ a = omega arith in
    ap (λ x. x ∷ map f (range_with_len (a + 1) n)) (sym (rw at at here))
    ∙ ap (λ xs. g a ∷ xs) (same_range f g (a + 1) n (λ j h. same j (λ e. omega (arith, h, e))))
set_range {X} f g y a (suc n) (suc i) same here =
    let at : a + suc i ≡ (a + 1) + i = omega arith in
    ap (λ x. x ∷ set (map f (range_with_len (a + 1) n)) i y) (same a (λ e. omega (arith, e)))
    ∙ ap (λ xs. g a ∷ xs) (set_range f g y (a + 1) n i (λ j h. same j (λ e. h (e ∙ at))) (rw at at here))

-- the worker whose turn it is gets one more, and no other does
pub dealt-more : {X : Type 0} (workers : ℕ) (xs : List X) (x : X) → 0 < workers
    → set (dealt workers xs) (length xs % workers) (get_or (dealt workers xs) (length xs % workers) [] ++ x ∷ []) ≡ dealt workers (xs ++ x ∷ [])
dealt-more {X} workers xs x some =
    let turn = length xs % workers in
    let start : (n : ℕ) → 0 + n ≡ n = λ n. omega arith in
    let mine : get_or (dealt workers xs) turn [] ≡ dealt_to workers turn 0 xs = get_or-map-range_with_len (λ worker. dealt_to workers worker 0 xs) 0 workers turn turn [] (mod-lt (length xs) some) (start turn) in
    let last : (j : ℕ) → dealt_to workers j 0 (xs ++ x ∷ []) ≡ dealt_to workers j 0 xs ++ cond (turn == j) (x ∷ []) [] =
    λ j. dealt_to-append workers j 0 xs x ∙ ap (λ n. dealt_to workers j 0 xs ++ cond ((n % workers) == j) (x ∷ []) []) (start (length xs)) in
    let first : set (dealt workers xs) turn (dealt_to workers turn 0 xs ++ x ∷ []) ≡ dealt workers (xs ++ x ∷ []) =
    set_range (λ worker. dealt_to workers worker 0 xs) (λ worker. dealt_to workers worker 0 (xs ++ x ∷ [])) (dealt_to workers turn 0 xs ++ x ∷ []) 0 workers turn
    (λ j other. sym (last j ∙ ap (λ b. dealt_to workers j 0 xs ++ cond b (x ∷ []) []) (ne_eqb turn j (λ e. other (sym e ∙ sym (start turn)))) ∙ append-nil _))
    (ap (λ j. dealt_to workers j 0 (xs ++ x ∷ [])) (start turn) ∙ last turn ∙ ap (λ b. dealt_to workers turn 0 xs ++ cond b (x ∷ []) []) (eqb-true turn turn refl)) in
    ap (λ t. set (dealt workers xs) turn (t ++ x ∷ [])) mine ∙ first

-- nothing is dealt yet
pub dealt-none : {X : Type 0} (workers : ℕ) → replicate workers [] ≡ dealt {X = X} workers []
dealt-none {X} workers = none 0 workers
  where
    none : (a n : ℕ) → replicate n [] ≡ map (λ worker. dealt_to {X = X} workers worker 0 []) (range_with_len a n)
    none a zero = refl
    none a (suc n) = ap (λ xs. [] ∷ xs) (none (a + 1) n)

-- the same of scripts that are seen by a view
pub dealt-push : {V X : Type 0} (view : V → List X) (workers i : ℕ) (scripts : List V) (xs : List X) (old new : V) (x : X) → 0 < workers → map view scripts ≡ dealt workers xs → i ≡ length xs % workers
    → view old ≡ get_or (map view scripts) i [] → view new ≡ view old ++ x ∷ [] → map view (set scripts i new) ≡ dealt workers (xs ++ x ∷ [])
dealt-push {V} {X} view workers i scripts xs old new x some given turn was is =
    map-set view scripts i new
    ∙ ap (set (map view scripts) i) (is ∙ ap (λ t. t ++ x ∷ []) was)
    ∙ ap (λ all. set all i (get_or all i [] ++ x ∷ [])) given
    ∙ ap (λ n. set (dealt workers xs) n (get_or (dealt workers xs) n [] ++ x ∷ [])) turn
    ∙ dealt-more workers xs x some

-- as many scripts as workers
pub dealt-length : {V X : Type 0} (view : V → List X) (workers : ℕ) (scripts : List V) (xs : List X) → map view scripts ≡ dealt workers xs → length scripts ≡ workers
dealt-length {V} {X} view workers scripts xs given =
    sym (length-map scripts view) ∙ ap length given ∙ length-map-range_with_len (λ worker. dealt_to workers worker 0 xs) 0 workers
