-- Lemmas on lists that std has not.
use Rattle.std.proofs.Common.{◌≡◌, ℕ, suc, zero, ◌+◌, ◌-◌, ◌≤◌, ◌↔◌, List, [], ◌∷◌, ◌++◌, Option, Some, None, length, take, drop, refl, ap, arith}
use Rattle.std.specs.List.{slice_get, last_or}
use Rattle.std.proofs.lemmas.List.{drop_all}
use Rattle.std.proofs.lemmas.Option.{slice_get-get_or}

pub drop-append : {X : Type 0} (xs ys : List X) (n : ℕ) → drop n (xs ++ ys) ≡ drop n xs ++ drop (n - length xs) ys
drop-append {X} [] ys n =
    let none : drop {A = X} n [] ≡ [] = drop_all n [] (omega arith) in
    let e : n - 0 ≡ n = omega arith in
    rw (none, e) refl
drop-append (x ∷ xs) ys zero = let e : 0 - suc (length xs) ≡ 0 = omega arith in rw e refl
drop-append (x ∷ xs) ys (suc n) = let e : suc n - suc (length xs) ≡ n - length xs = omega arith in rw e (drop-append xs ys n)

pub head_of_drop : {X : Type 0} (xs : List X) (n : ℕ) → slice_get xs n ≡ slice_get (drop n xs) 0
head_of_drop {X} [] n = let none : drop {A = X} n [] ≡ [] = drop_all n [] (omega arith) in rw none refl
head_of_drop (x ∷ xs) zero = refl
head_of_drop (x ∷ xs) (suc n) = head_of_drop xs n

-- a rest that begins with x: x stands at that place, and the rest behind it is the other rest
pub get_from_drop : {X : Type 0} (xs : List X) (n : ℕ) (x : X) (rest : List X) → drop n xs ≡ x ∷ rest → slice_get xs n ≡ Some x
get_from_drop {X} [] n x rest h = let e : drop {A = X} n [] ≡ [] = drop_all n [] (omega arith) in cc
get_from_drop (y ∷ ys) zero x rest h = cc
get_from_drop (y ∷ ys) (suc n) x rest h = get_from_drop ys n x rest h

pub rest_from_drop : {X : Type 0} (xs : List X) (n : ℕ) (x : X) (rest : List X) → drop n xs ≡ x ∷ rest → drop (n + 1) xs ≡ rest
rest_from_drop {X} [] n x rest h = let e : drop {A = X} n [] ≡ [] = drop_all n [] (omega arith) in cc
rest_from_drop (y ∷ ys) zero x rest h = cc
rest_from_drop (y ∷ ys) (suc n) x rest h = let e : suc n + 1 ≡ suc (n + 1) = omega arith in rw e (rest_from_drop ys n x rest h)

pub take_push : {X : Type 0} (xs : List X) (n : ℕ) (x : X) → slice_get xs n ≡ Some x → take (n + 1) xs ≡ take n xs ++ x ∷ []
take_push [] n x h = cc
take_push (y ∷ ys) zero x h = let same : y ≡ x = cc in ap (λ v. v ∷ []) same
take_push (y ∷ ys) (suc n) x h = let e : suc n + 1 ≡ suc (n + 1) = omega arith in rw e (ap (λ zs. y ∷ zs) (take_push ys n x h))

pub last_or-push : {X : Type 0} (o : Option X) (xs : List X) (x : X) → last_or o (xs ++ x ∷ []) ≡ Some x
last_or-push o [] x = refl
last_or-push o (y ∷ xs) x = last_or-push (Some y) xs x

-- a last element, and what stands before it
pub last_front : {X : Type 0} (xs : List X) (x : X) → slice_get xs (length xs - 1) ≡ Some x → (front : List X) × (xs ≡ front ++ x ∷ [])
last_front [] x h = cc
last_front (y ∷ []) x h = let same : y ≡ x = cc in ([], ap (λ v. v ∷ []) same)
last_front (y ∷ z ∷ zs) x h =
    let e : suc (suc (length zs)) - 1 ≡ suc (suc (length zs) - 1) = omega arith in
    let rest = last_front (z ∷ zs) x (rw e at h) in
    (y ∷ rest.0, ap (λ vs. y ∷ vs) rest.1)

-- a list without a last element
pub no_last : {X : Type 0} (xs : List X) → slice_get xs (length xs - 1) ≡ None → xs ≡ []
no_last [] h = refl
no_last (y ∷ ys) h = let there = slice_get-get_or (y ∷ ys) (length (y ∷ ys) - 1) y (omega arith) in cc

-- nothing stands at a place exactly where it is the end
pub none_at_end : {X : Type 0} (xs : List X) (n : ℕ) → n ≤ length xs → (slice_get xs n ≡ None) ↔ (n ≡ length xs)
none_at_end [] n l = (λ h. omega (arith, l), λ e. refl)
none_at_end (y ∷ ys) zero l = (λ h. cc, λ e. absurd (omega (arith, e)))
none_at_end (y ∷ ys) (suc n) l =
    let rest = none_at_end ys n (omega (arith, l)) in
    (λ h. ap suc (rest.0 h), λ e. rest.1 (omega (arith, e)))
