-- The watch of a number in a list that changes at one place.
use Rattle.std.proofs.Common.{◌≡◌, ℕ, suc, zero, ◌+◌, ◌-◌, ◌<◌, ◌≤◌, ◌⊎◌, inl, inr, Bool, true, false, cond, List, [], ◌∷◌, ◌++◌, Option, Some, None, length, take, refl, sym, ap, ◌∙◌, arith}
use Rattle.std.specs.Prelude.{slice_set}
use Rattle.std.specs.List.{slice_get}
use Rattle.std.specs.Option.{option_and_then}
use Rattle.std.proofs.lemmas.Bool.{ne_eqb}
use Rattle.std.proofs.lemmas.Option.{slice_get_past, slice_get_within}
use Rattle.kv_model.specs.State.{Watch, watch_at, if_open}

-- reads of a list with one place set
get_set_same : {X : Type 0} (xs : List X) (i : ℕ) (x y : X) → slice_get xs i ≡ Some x → slice_get (slice_set xs i y) i ≡ Some y
get_set_same [] i x y h = cc
get_set_same (z ∷ xs) zero x y h = refl
get_set_same (z ∷ xs) (suc i) x y h = get_set_same xs i x y h

get_set_other : {X : Type 0} (xs : List X) (i j : ℕ) (y : X) → (j ≡ i → ⊥) → slice_get (slice_set xs i y) j ≡ slice_get xs j
get_set_other [] i j y ne = refl
get_set_other (x ∷ xs) zero zero y ne = absurd (ne refl)
get_set_other (x ∷ xs) zero (suc j) y ne = refl
get_set_other (x ∷ xs) (suc i) zero y ne = refl
get_set_other (x ∷ xs) (suc i) (suc j) y ne = get_set_other xs i j y (λ e. ne (ap suc e))

get_push : {X : Type 0} (xs : List X) (i : ℕ) (x : X) → slice_get xs i ≡ None → (slice_get (xs ++ x ∷ []) i ≡ Some x) ⊎ (slice_get (xs ++ x ∷ []) i ≡ None)
get_push [] zero x h = inl refl
get_push [] (suc i) x h = inr refl
get_push (y ∷ xs) zero x h = cc
get_push (y ∷ xs) (suc i) x h = get_push xs i x h

get_push_here : {X : Type 0} (xs : List X) (x : X) → slice_get (xs ++ x ∷ []) (length xs) ≡ Some x
get_push_here [] x = refl
get_push_here (y ∷ xs) x = get_push_here xs x

get_push_some : {X : Type 0} (xs : List X) (i : ℕ) (x y : X) → slice_get xs i ≡ Some y → slice_get (xs ++ x ∷ []) i ≡ Some y
get_push_some [] i x y h = cc
get_push_some (z ∷ xs) zero x y h = h
get_push_some (z ∷ xs) (suc i) x y h = get_push_some xs i x y h

get_push_other : {X : Type 0} (xs : List X) (i : ℕ) (y : X) → (i ≡ length xs → ⊥) → slice_get (xs ++ y ∷ []) i ≡ slice_get xs i
get_push_other [] zero y ne = absurd (ne refl)
get_push_other [] (suc i) y ne = refl
get_push_other (x ∷ xs) zero y ne = refl
get_push_other (x ∷ xs) (suc i) y ne = get_push_other xs i y (λ e. ne (ap suc e))

-- one element more
pub take_push : {X : Type 0} (xs : List X) (n : ℕ) (x : X) → slice_get xs n ≡ Some x → take (n + 1) xs ≡ take n xs ++ x ∷ []
take_push [] n x h = cc
take_push (y ∷ ys) zero x h = let same : y ≡ x = cc in ap (λ v. v ∷ []) same
take_push (y ∷ ys) (suc n) x h = let e : suc n + 1 ≡ suc (n + 1) = omega arith in rw e (ap (λ zs. y ∷ zs) (take_push ys n x h))

-- numbers begin at 1
less_one : (n : ℕ) → suc n - 1 ≡ n
less_one n = omega arith

pub at_suc : (n : ℕ) (ws : List Watch) → watch_at (suc n) ws ≡ slice_get ws n
at_suc n ws = ap (λ b. cond b None (slice_get ws (suc n - 1))) (ne_eqb (suc n) 0 (λ e. absurd (omega arith))) ∙ ap (slice_get ws) (less_one n)

set_suc : (n : ℕ) (ws : List Watch) (v : Watch) → slice_set ws (suc n - 1) v ≡ slice_set ws n v
set_suc n ws v = ap (λ i. slice_set ws i v) (less_one n)

-- a watch set at its number
pub at_set_same : (ws : List Watch) (i : ℕ) (w v : Watch) → watch_at i ws ≡ Some w → watch_at i (slice_set ws (i - 1) v) ≡ Some v
at_set_same ws zero w v h = cc
at_set_same ws (suc n) w v h = ap (watch_at (suc n)) (set_suc n ws v) ∙ at_suc n (slice_set ws n v) ∙ get_set_same ws n w v (sym (at_suc n ws) ∙ h)

pub at_set_other : (ws : List Watch) (i j : ℕ) (w v : Watch) → watch_at j ws ≡ Some w → (i ≡ j → ⊥) → watch_at i (slice_set ws (j - 1) v) ≡ watch_at i ws
at_set_other ws i zero w v h ne = cc
at_set_other ws zero (suc m) w v h ne = refl
at_set_other ws (suc n) (suc m) w v h ne =
    ap (watch_at (suc n)) (set_suc m ws v) ∙ at_suc n (slice_set ws m v) ∙ get_set_other ws m n v (λ e. ne (ap suc e)) ∙ sym (at_suc n ws)

-- a watch added at the end
pub at_push : (ws : List Watch) (i : ℕ) (w : Watch) → watch_at i ws ≡ None → (watch_at i (ws ++ w ∷ []) ≡ Some w) ⊎ (watch_at i (ws ++ w ∷ []) ≡ None)
at_push ws zero w h = inr refl
at_push ws (suc n) w h = rw (at_suc n (ws ++ w ∷ [])) (get_push ws n w (sym (at_suc n ws) ∙ h))

pub at_push_here : (ws : List Watch) (w : Watch) → watch_at (length ws + 1) (ws ++ w ∷ []) ≡ Some w
at_push_here ws w =
    let e : length ws + 1 ≡ suc (length ws) = omega arith in
    ap (λ n. watch_at n (ws ++ w ∷ [])) e ∙ at_suc (length ws) (ws ++ w ∷ []) ∙ get_push_here ws w

pub at_push_some : (ws : List Watch) (i : ℕ) (w v : Watch) → watch_at i ws ≡ Some v → watch_at i (ws ++ w ∷ []) ≡ Some v
at_push_some ws zero w v h = cc
at_push_some ws (suc n) w v h = at_suc n (ws ++ w ∷ []) ∙ get_push_some ws n w v (sym (at_suc n ws) ∙ h)

pub at_push_other : (ws : List Watch) (i : ℕ) (w : Watch) → (i ≡ length ws + 1 → ⊥) → watch_at i (ws ++ w ∷ []) ≡ watch_at i ws
at_push_other ws zero w ne = refl
at_push_other ws (suc n) w ne = at_suc n (ws ++ w ∷ []) ∙ get_push_other ws n w (λ e. ne (omega (arith, e))) ∙ sym (at_suc n ws)

-- a number that was not given yet
pub at_past : (ws : List Watch) → watch_at (length ws + 1) ws ≡ None
at_past ws =
    let e : length ws + 1 ≡ suc (length ws) = omega arith in
    ap (λ n. watch_at n ws) e ∙ at_suc (length ws) ws ∙ slice_get_past ws (length ws) (omega arith)

-- the number of a watch is one of those that were given
pub at_within : (ws : List Watch) (i : ℕ) (w : Watch) → watch_at i ws ≡ Some w → (1 ≤ i) × (i - 1 < length ws)
at_within ws zero w h = cc
at_within ws (suc n) w h = let l = slice_get_within ws n w (sym (at_suc n ws) ∙ h) in (omega arith, omega (arith, l))

-- an open watch stands at its number
pub open_is : (o : Option Watch) (w : Watch) → option_and_then if_open o ≡ Some w → (o ≡ Some w) × (w.is_open ≡ true)
open_is None w h = cc
open_is (Some v) w h = by_flag v.is_open refl
  where
    by_flag : (b : Bool) → v.is_open ≡ b → (Some v ≡ Some w) × (w.is_open ≡ true)
    by_flag true e =
        let here : Some v ≡ Some w = ap (λ b. cond b (Some v) None) (sym e) ∙ h in
        let same : v ≡ w = cc in (here, ap (λ (u : Watch). u.is_open) (sym same) ∙ e)
    by_flag false e = let none : None ≡ Some w = ap (λ b. cond b (Some v) None) (sym e) ∙ h in cc

-- and stands one place before it
pub at_get : (ws : List Watch) (i : ℕ) (w : Watch) → watch_at i ws ≡ Some w → slice_get ws (i - 1) ≡ Some w
at_get ws zero w h = cc
at_get ws (suc n) w h = ap (slice_get ws) (less_one n) ∙ sym (at_suc n ws) ∙ h

-- a place set to what stands there
pub set_get : {X : Type 0} (xs : List X) (i : ℕ) (x : X) → slice_get xs i ≡ Some x → slice_set xs i x ≡ xs
set_get [] i x h = cc
set_get (y ∷ xs) zero x h = let same : y ≡ x = cc in ap (λ z. z ∷ xs) (sym same)
set_get (y ∷ xs) (suc i) x h = ap (λ zs. y ∷ zs) (set_get xs i x h)
