-- Members of lists, and what a filter keeps of them.
use Rattle.std.proofs.Common.{◌≡◌, ℕ, zero, suc, ◌<◌, Bool, true, false, cond, ◌&&◌, ◌||◌, ◌==◌, List, [], ◌∷◌, length, get_or, map, filter, inl, inr, ◌⊎◌, ⊎_elim, refl, sym, subst, arith}
use Rattle.std.specs.List.{Contains, list_any, flat_map}
use Rattle.std.proofs.lemmas.Bool.{eqb-true, eq-eqb}
use Rattle.std.proofs.lemmas.List.Elements.{Contains-append_left, Contains-append_right, Contains-append_cases}

pub Contains-there : {X : Type 0} (x : X) (xs : List X) (y : X) → Contains xs y → Contains (x ∷ xs) y
Contains-there x xs y h = (suc h.0, omega (arith, h.1), h.2)

pub Contains-here : {X : Type 0} (x : X) (xs : List X) → Contains (x ∷ xs) x
Contains-here x xs = (0, omega arith, refl)

member_cases : {X : Type 0} (x : X) (xs : List X) (y : X) (k : ℕ) → k < length (x ∷ xs) → get_or (x ∷ xs) k y ≡ y → (x ≡ y) ⊎ Contains xs y
member_cases x xs y zero l e = inl e
member_cases x xs y (suc k) l e = inr (k, omega arith, e)

pub Contains-cases : {X : Type 0} (x : X) (xs : List X) (y : X) → Contains (x ∷ xs) y → (x ≡ y) ⊎ Contains xs y
Contains-cases x xs y h = member_cases x xs y h.0 h.1 h.2

pub Contains-none : {X : Type 0} (y : X) → Contains [] y → ⊥
Contains-none y h = omega (arith, h.1)

-- an element that is mapped
pub Contains-map : {X Y : Type 0} (f : X → Y) (xs : List X) (x : X) → Contains xs x → Contains (map f xs) (f x)
Contains-map f [] x h = absurd (Contains-none x h)
Contains-map f (y ∷ ys) x h =
    ⊎_elim (λ e. subst (λ z. Contains (f z ∷ map f ys) (f x)) (sym e) (Contains-here (f x) (map f ys))) (λ m. Contains-there (f y) (map f ys) (f x) (Contains-map f ys x m)) (Contains-cases y ys x h)

pub Contains-from_map : {X Y : Type 0} (f : X → Y) (xs : List X) (y : Y) → Contains (map f xs) y → (x : X) × Contains xs x × (f x ≡ y)
Contains-from_map f [] y h = absurd (Contains-none y h)
Contains-from_map {X} {Y} f (x ∷ xs) y h =
    ⊎_elim (λ e. (x, Contains-here x xs, e)) (λ m. let rest = Contains-from_map f xs y m in (rest.0, Contains-there x xs rest.0 rest.1, rest.2)) (Contains-cases (f x) (map f xs) y h)

-- an element of a filter is one that passes
pub Contains-filter : {X : Type 0} (p : X → Bool) (xs : List X) (x : X) → Contains xs x → p x ≡ true → Contains (filter p xs) x
Contains-filter p [] x h t = absurd (Contains-none x h)
Contains-filter p (y ∷ ys) x h t =
    ⊎_elim (λ e. subst (λ z. Contains (cond (p z) (z ∷ filter p ys) (filter p ys)) x) (sym e) (subst (λ b. Contains (cond b (x ∷ filter p ys) (filter p ys)) x) (sym t) (Contains-here x (filter p ys)))) (λ m. later (p y) (Contains-filter p ys x m t)) (Contains-cases y ys x h)
  where
    later : (b : Bool) → Contains (filter p ys) x → Contains (cond b (y ∷ filter p ys) (filter p ys)) x
    later true m = Contains-there y (filter p ys) x m
    later false m = m

pub Contains-from_filter : {X : Type 0} (p : X → Bool) (xs : List X) (x : X) → Contains (filter p xs) x → Contains xs x × (p x ≡ true)
Contains-from_filter p [] x h = absurd (Contains-none x h)
Contains-from_filter p (y ∷ ys) x h = by_test (p y) refl h (λ m. let rest = Contains-from_filter p ys x m in (Contains-there y ys x rest.0, rest.1))
  where
    by_test : (b : Bool) → p y ≡ b → Contains (cond b (y ∷ filter p ys) (filter p ys)) x → (Contains (filter p ys) x → Contains (y ∷ ys) x × (p x ≡ true)) → Contains (y ∷ ys) x × (p x ≡ true)
    by_test true t m later =
        ⊎_elim (λ e. subst (λ z. Contains (y ∷ ys) z × (p z ≡ true)) e (Contains-here y ys, t)) later (Contains-cases y (filter p ys) x m)
    by_test false t m later = later m

-- an element of one of several lists
pub Contains-flat_map : {X Y : Type 0} (f : X → List Y) (xs : List X) (x : X) (y : Y) → Contains xs x → Contains (f x) y → Contains (flat_map f xs) y
Contains-flat_map f [] x y h m = absurd (Contains-none x h)
Contains-flat_map f (z ∷ zs) x y h m =
    ⊎_elim (λ e. Contains-append_left (f z) (flat_map f zs) y (subst (λ v. Contains (f v) y) (sym e) m)) (λ n. Contains-append_right (f z) (flat_map f zs) y (Contains-flat_map f zs x y n m)) (Contains-cases z zs x h)

pub Contains-from_flat_map : {X Y : Type 0} (f : X → List Y) (xs : List X) (y : Y) → Contains (flat_map f xs) y → (x : X) × Contains xs x × Contains (f x) y
Contains-from_flat_map f [] y h = absurd (Contains-none y h)
Contains-from_flat_map f (x ∷ xs) y h =
    ⊎_elim (λ m. (x, Contains-here x xs, m)) (λ m. let rest = Contains-from_flat_map f xs y m in (rest.0, Contains-there x xs rest.0 rest.1, rest.2)) (Contains-append_cases (f x) (flat_map f xs) y h)

-- a number is a member where a test finds it
pub any_from_Contains : (n : ℕ) (rs : List ℕ) → Contains rs n → list_any (λ r. r == n) rs ≡ true
any_from_Contains n [] h = absurd (Contains-none n h)
any_from_Contains n (r ∷ rs) h =
    ⊎_elim (λ e. rw (eq-eqb r n e) refl) (λ m. let rest = any_from_Contains n rs m in elim (r == n) as (λ b. (b || list_any (λ r. r == n) rs) ≡ true) [ true ↦ refl | false ↦ rest ]) (Contains-cases r rs n h)

pub Contains-from_any : (n : ℕ) (rs : List ℕ) → list_any (λ r. r == n) rs ≡ true → Contains rs n
Contains-from_any n [] h = cc
Contains-from_any n (r ∷ rs) h = by_test (r == n) refl h (λ m. Contains-there r rs n (Contains-from_any n rs m))
  where
    by_test : (b : Bool) → (r == n) ≡ b → (b || list_any (λ r. r == n) rs) ≡ true → (list_any (λ r. r == n) rs ≡ true → Contains (r ∷ rs) n) → Contains (r ∷ rs) n
    by_test true t k later = subst (λ m. Contains (r ∷ rs) m) (eqb-true r n t) (Contains-here r rs)
    by_test false t k later = later k

-- a filter that all elements pass, and one that none does
pub filter_all : {X : Type 0} (p : X → Bool) (xs : List X) → ((x : X) → Contains xs x → p x ≡ true) → filter p xs ≡ xs
filter_all p [] h = refl
filter_all p (x ∷ xs) h = let t = h x (Contains-here x xs) in rw (t, filter_all p xs (λ y m. h y (Contains-there x xs y m))) refl

pub filter_none : {X : Type 0} (p : X → Bool) (xs : List X) → ((x : X) → Contains xs x → p x ≡ false) → filter p xs ≡ []
filter_none p [] h = refl
filter_none p (x ∷ xs) h = let t = h x (Contains-here x xs) in rw (t, filter_none p xs (λ y m. h y (Contains-there x xs y m))) refl

-- two filters are one
pub filter-filter : {X : Type 0} (p q : X → Bool) (xs : List X) → filter p (filter q xs) ≡ filter (λ x. q x && p x) xs
filter-filter p q [] = refl
filter-filter p q (x ∷ xs) = grind (arith, filter-filter p q xs)
