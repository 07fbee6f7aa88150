-- What is found in a list that changes at one place.
use Rattle.std.proofs.Common.{◌≡◌, ℕ, suc, zero, ◌+◌, ◌<◌, ◌≤◌, Bool, true, false, not, cond, List, [], ◌∷◌, ◌++◌, Some, None, length, filter, refl, ap, ◌∙◌, arith, length-append}
use Rattle.std.specs.Prelude.{slice_set, nat_lt}
use Rattle.std.specs.List.{slice_get, find, position, position_or_len}
use Rattle.std.proofs.lemmas.List.Elements.{filter-append}
use Rattle.std.proofs.lemmas.Option.{slice_get_past}
use borrow.Author.Tests.{ltb-false, ltb-true}

-- the first that passes stands at the first place that does
pub find_at : {X : Type 0} (p : X → Bool) (xs : List X) → find p xs ≡ slice_get xs (position_or_len p xs)
find_at p [] = refl
find_at p (x ∷ xs) = elim (p x) as (λ b. cond b (Some x) (find p xs) ≡ slice_get (x ∷ xs) (cond (not b) (1 + position_or_len p xs) 0)) [
  | true ↦ refl
  | false ↦ (let e : 1 + position_or_len p xs ≡ suc (position_or_len p xs) = omega arith in rw e (find_at p xs))
]

pub find_none : {X : Type 0} (p : X → Bool) (xs : List X) → position p xs ≡ None → find p xs ≡ None
find_none p xs h = find_at p xs ∙ slice_get_past xs (position_or_len p xs) (by_test (nat_lt (position_or_len p xs) (length xs)) refl h)
  where
    by_test : (b : Bool) → nat_lt (position_or_len p xs) (length xs) ≡ b → cond b (Some (position_or_len p xs)) None ≡ None → length xs ≤ position_or_len p xs
    by_test true e h = cc
    by_test false e h = ltb-false (position_or_len p xs) (length xs) e

pub find_some : {X : Type 0} (p : X → Bool) (xs : List X) (i : ℕ) → position p xs ≡ Some i → position_or_len p xs ≡ i
find_some p xs i h = by_test (nat_lt (position_or_len p xs) (length xs)) h
  where
    by_test : (b : Bool) → cond b (Some (position_or_len p xs)) None ≡ Some i → position_or_len p xs ≡ i
    by_test true h = cc
    by_test false h = cc

-- one place set
pub find_set : {X : Type 0} (p : X → Bool) (xs : List X) (x y : X) → slice_get xs (position_or_len p xs) ≡ Some x → p y ≡ true → find p (slice_set xs (position_or_len p xs) y) ≡ Some y
find_set p [] x y h t = cc
find_set p (z ∷ xs) x y h t =
    let P : Bool → Type 0 = λ b. p z ≡ b → slice_get (z ∷ xs) (cond (not b) (1 + position_or_len p xs) 0) ≡ Some x → find p (slice_set (z ∷ xs) (cond (not b) (1 + position_or_len p xs) 0) y) ≡ Some y in
    let more : 1 + position_or_len p xs ≡ suc (position_or_len p xs) = omega arith in
    let cases : (b : Bool) → P b = λ b. elim b as P [
      | true ↦ (λ e g. rw t refl)
      | false ↦ (λ e g. rw (more, e) (find_set p xs x y (rw more at g) t))
    ] in
    cases (p z) refl h

pub find_set_other : {X : Type 0} (p : X → Bool) (xs : List X) (i : ℕ) (x y : X) → slice_get xs i ≡ Some x → p x ≡ false → p y ≡ false → find p (slice_set xs i y) ≡ find p xs
find_set_other p [] i x y h f g = cc
find_set_other p (z ∷ xs) zero x y h f g = let same : z ≡ x = cc in rw (g, same, f) refl
find_set_other p (z ∷ xs) (suc i) x y h f g = ap (λ o. cond (p z) (Some z) o) (find_set_other p xs i x y h f g)

pub count_set : {X : Type 0} (p : X → Bool) (xs : List X) (i : ℕ) (x y : X) → slice_get xs i ≡ Some x → p y ≡ p x → length (filter p (slice_set xs i y)) ≡ length (filter p xs)
count_set p [] i x y h e = cc
count_set p (z ∷ xs) zero x y h e =
    let same : z ≡ x = cc in
    rw (e, same) (elim (p x) as (λ b. length (cond b (y ∷ filter p xs) (filter p xs)) ≡ length (cond b (x ∷ filter p xs) (filter p xs))) [ true ↦ refl | false ↦ refl ])
count_set p (z ∷ xs) (suc i) x y h e =
    let rest = count_set p xs i x y h e in
    elim (p z) as (λ b. length (cond b (z ∷ filter p (slice_set xs i y)) (filter p (slice_set xs i y))) ≡ length (cond b (z ∷ filter p xs) (filter p xs))) [ true ↦ ap suc rest | false ↦ rest ]

pub count_fewer : {X : Type 0} (p : X → Bool) (xs : List X) (i : ℕ) (x y : X) → slice_get xs i ≡ Some x → p x ≡ true → p y ≡ false → length (filter p (slice_set xs i y)) + 1 ≡ length (filter p xs)
count_fewer p [] i x y h t f = cc
count_fewer p (z ∷ xs) zero x y h t f = let same : z ≡ x = cc in rw (f, same, t) (omega arith)
count_fewer p (z ∷ xs) (suc i) x y h t f =
    let rest = count_fewer p xs i x y h t f in
    elim (p z) as (λ b. length (cond b (z ∷ filter p (slice_set xs i y)) (filter p (slice_set xs i y))) + 1 ≡ length (cond b (z ∷ filter p xs) (filter p xs))) [ true ↦ omega (arith, rest) | false ↦ rest ]

-- one more at the end
pub find_push_other : {X : Type 0} (p : X → Bool) (xs : List X) (y : X) → p y ≡ false → find p (xs ++ y ∷ []) ≡ find p xs
find_push_other p [] y f = rw f refl
find_push_other p (x ∷ xs) y f = ap (λ o. cond (p x) (Some x) o) (find_push_other p xs y f)

pub find_push : {X : Type 0} (p : X → Bool) (xs : List X) (y : X) → find p xs ≡ None → p y ≡ true → find p (xs ++ y ∷ []) ≡ Some y
find_push p [] y h t = rw t refl
find_push p (x ∷ xs) y h t = by_test (λ none. find_push p xs y none t) (p x) h
  where
    by_test : (find p xs ≡ None → find p (xs ++ y ∷ []) ≡ Some y) → (b : Bool) → cond b (Some x) (find p xs) ≡ None → cond b (Some x) (find p (xs ++ y ∷ [])) ≡ Some y
    by_test rest true h = cc
    by_test rest false h = rest h

pub count_push : {X : Type 0} (p : X → Bool) (xs : List X) (y : X) → length (filter p (xs ++ y ∷ [])) ≡ length (filter p xs) + length (filter p (y ∷ []))
count_push p xs y = ap length (filter-append p xs (y ∷ [])) ∙ length-append (filter p xs) (filter p (y ∷ []))

-- some left out
pub find_filter : {X : Type 0} (p q : X → Bool) (xs : List X) → ((x : X) → p x ≡ true → q x ≡ true) → find p (filter q xs) ≡ find p xs
find_filter p q [] h = refl
find_filter p q (x ∷ xs) h = by_test (find_filter p q xs h) (p x) refl (q x) refl
  where
    by_test : find p (filter q xs) ≡ find p xs → (b : Bool) → p x ≡ b → (c : Bool) → q x ≡ c → find p (cond (q x) (x ∷ filter q xs) (filter q xs)) ≡ cond (p x) (Some x) (find p xs)
    by_test rest b e true f = rw f (ap (λ o. cond (p x) (Some x) o) rest)
    by_test rest true e false f = let t = h x e in cc
    by_test rest false e false f = rw (f, e) rest

pub find_none_left : {X : Type 0} (p q : X → Bool) (xs : List X) → ((x : X) → q x ≡ true → p x ≡ false) → find p (filter q xs) ≡ None
find_none_left p q [] h = refl
find_none_left p q (x ∷ xs) h = by_test (find_none_left p q xs h) (q x) refl
  where
    by_test : find p (filter q xs) ≡ None → (b : Bool) → q x ≡ b → find p (cond b (x ∷ filter q xs) (filter q xs)) ≡ None
    by_test rest true e = rw (h x e) rest
    by_test rest false e = rest

pub filter_filter_same : {X : Type 0} (p q : X → Bool) (xs : List X) → ((x : X) → p x ≡ true → q x ≡ true) → filter p (filter q xs) ≡ filter p xs
filter_filter_same p q [] h = refl
filter_filter_same p q (x ∷ xs) h = by_test (filter_filter_same p q xs h) (p x) refl (q x) refl
  where
    by_test : filter p (filter q xs) ≡ filter p xs → (b : Bool) → p x ≡ b → (c : Bool) → q x ≡ c → filter p (cond (q x) (x ∷ filter q xs) (filter q xs)) ≡ cond (p x) (x ∷ filter p xs) (filter p xs)
    by_test rest b e true f = rw f (ap (λ ys. cond (p x) (x ∷ ys) ys) rest)
    by_test rest true e false f = let t = h x e in cc
    by_test rest false e false f = rw (f, e) rest

pub filter_filter_none : {X : Type 0} (p q : X → Bool) (xs : List X) → ((x : X) → q x ≡ true → p x ≡ false) → filter p (filter q xs) ≡ []
filter_filter_none p q [] h = refl
filter_filter_none p q (x ∷ xs) h = by_test (filter_filter_none p q xs h) (q x) refl
  where
    by_test : filter p (filter q xs) ≡ [] → (b : Bool) → q x ≡ b → filter p (cond b (x ∷ filter q xs) (filter q xs)) ≡ []
    by_test rest true e = rw (h x e) rest
    by_test rest false e = rest

pub length_parts : {X : Type 0} (p : X → Bool) (xs : List X) → length (filter (λ x. not (p x)) xs) + length (filter p xs) ≡ length xs
length_parts p [] = omega arith
length_parts p (x ∷ xs) =
    let rest = length_parts p xs in
    elim (p x) as (λ b. length (cond (not b) (x ∷ filter (λ y. not (p y)) xs) (filter (λ y. not (p y)) xs)) + length (cond b (x ∷ filter p xs) (filter p xs)) ≡ suc (length xs)) [ true ↦ omega (arith, rest) | false ↦ omega (arith, rest) ]

there : {X : Type 0} (xs : List X) (i : ℕ) → i < length xs → (x : X) × (slice_get xs i ≡ Some x)
there [] i l = absurd (omega arith)
there (x ∷ xs) zero l = (x, refl)
there (x ∷ xs) (suc i) l = there xs i (omega arith)

-- where a place was found, something stands
pub found_there : {X : Type 0} (p : X → Bool) (xs : List X) (i : ℕ) → position p xs ≡ Some i → (x : X) × (slice_get xs i ≡ Some x)
found_there p xs i h = there xs i (by_test (nat_lt (position_or_len p xs) (length xs)) refl h)
  where
    by_test : (b : Bool) → nat_lt (position_or_len p xs) (length xs) ≡ b → cond b (Some (position_or_len p xs)) None ≡ Some i → i < length xs
    by_test true e h = let same : position_or_len p xs ≡ i = cc in omega (arith, ltb-true (position_or_len p xs) (length xs) e, same)
    by_test false e h = cc
