-- The last element of a list, and of what is left of it.
use Rattle.std.proofs.Common.{◌≡◌, ℕ, zero, suc, ◌-◌, ◌<◌, Bool, true, false, cond, List, [], ◌∷◌, Option, Some, None, length, drop, map, refl, ap, ◌∙◌, arith}
use Rattle.std.specs.List.{list_any, last_or, slice_get}
use Rattle.std.specs.Option.{option_to_list, option_map}
use Rattle.std.proofs.lemmas.List.{drop_all}
use Rattle.kv_model.specs.Acts.{Write, is_purge}
use Rattle.kv_model.specs.Retained.{since_purge, last_n}

-- the last element of a list with an element doesn't depend on a default
last_or_any : {X : Type 0} (test : X → Bool) (xs : List X) (a b : Option X) → list_any test xs ≡ true → last_or a xs ≡ last_or b xs
last_or_any test [] a b h = cc
last_or_any test (x ∷ xs) a b h = refl

-- what is left since the last purge has the same last write
pub last_or-since_purge : (ws : List Write) (o : Option Write) → last_or o (since_purge ws) ≡ last_or o ws
last_or-since_purge [] o = refl
last_or-since_purge (w ∷ ws) o =
    let P : Bool → Type 0 = λ b. list_any (λ v. is_purge v.op) ws ≡ b → last_or o (cond b (since_purge ws) (w ∷ ws)) ≡ last_or (Some w) ws in
    let cases : (b : Bool) → P b = λ b. elim b as P [ true ↦ (λ h. last_or-since_purge ws o ∙ last_or_any (λ v. is_purge v.op) ws o (Some w) h) | false ↦ (λ h. refl) ] in
    cases (list_any (λ v. is_purge v.op) ws) refl

-- the last one element is the last, if there is one
pub last_n_one : {X : Type 0} (xs : List X) → last_n 1 xs ≡ option_to_list (last_or None xs)
last_n_one [] = refl
last_n_one (x ∷ []) = refl
last_n_one (x ∷ y ∷ ys) = let e : suc (suc (length ys)) - 1 ≡ suc (suc (length ys) - 1) = omega arith in rw e (last_n_one (y ∷ ys))

-- the last of a rest that is not empty
last_or-drop : {X : Type 0} (xs : List X) (k : ℕ) (a b : Option X) → k < length xs → last_or a (drop k xs) ≡ last_or b xs
last_or-drop [] k a b h = absurd (omega arith)
last_or-drop (x ∷ xs) zero a b h = refl
last_or-drop (x ∷ xs) (suc k) a b h = last_or-drop xs k a (Some x) (omega arith)

pub last_or-last_n : {X : Type 0} (n : ℕ) (xs : List X) → 0 < n → last_or None (last_n n xs) ≡ last_or None xs
last_or-last_n n [] h = let e : last_n n [] ≡ [] = drop_all (0 - n) [] (omega arith) in ap (last_or None) e
last_or-last_n n (x ∷ xs) h = last_or-drop (x ∷ xs) (length (x ∷ xs) - n) None None (omega arith)

pub last_or-map : {X Y : Type 0} (f : X → Y) (xs : List X) (o : Option X) → last_or (option_map f o) (map f xs) ≡ option_map f (last_or o xs)
last_or-map f [] o = refl
last_or-map f (x ∷ xs) o = last_or-map f xs (Some x)

-- the last element stands at the last place
pub last_get : {X : Type 0} (xs : List X) → slice_get xs (length xs - 1) ≡ last_or None xs
last_get [] = refl
last_get (x ∷ []) = refl
last_get (x ∷ y ∷ ys) =
    let e : suc (suc (length ys)) - 1 ≡ suc (suc (length ys) - 1) = omega arith in rw e (last_get (y ∷ ys))
