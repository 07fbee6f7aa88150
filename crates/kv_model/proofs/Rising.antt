-- Lists of numbers that rise, each above the one before it.
use Rattle.std.proofs.Common.{◌≡◌, ℕ, zero, suc, ◌+◌, ◌<◌, ◌≤◌, List, [], ◌∷◌, ◌++◌, length, ⊎_elim, refl, arith}
use Rattle.std.specs.Prelude.{◌↔◌}
use Rattle.std.specs.List.{Contains}
use Rattle.std.specs.List.Sorted.{IsStrictlyIncreasing}
use Rattle.kv_model.proofs.Members.{Contains-here, Contains-there, Contains-cases, Contains-none}

-- the same numbers stand in both lists
abbrev pub HaveSameMembers : List ℕ → List ℕ → Type 0
HaveSameMembers xs ys = (n : ℕ) → Contains xs n ↔ Contains ys n

-- ---- strictly increasing lists

pub rising_tail : (x : ℕ) (xs : List ℕ) → IsStrictlyIncreasing (x ∷ xs) → IsStrictlyIncreasing xs
rising_tail x xs r k l =
    let e : suc k + 1 ≡ suc (k + 1) = omega arith in
    rw e at (r (suc k) (omega arith))

pub below_members : (x : ℕ) (xs : List ℕ) (n : ℕ) → IsStrictlyIncreasing (x ∷ xs) → Contains xs n → x < n
below_members x [] n r h = absurd (omega (arith, h.1))
below_members x (y ∷ ys) n r h =
    let l : x < y = r 0 (omega arith) in
    ⊎_elim (λ e. omega (arith, e)) (λ m. omega (arith, below_members y ys n (rising_tail x (y ∷ ys) r) m)) (Contains-cases y ys n h)

member_past : (x : ℕ) (xs : List ℕ) (n : ℕ) → x < n → Contains (x ∷ xs) n → Contains xs n
member_past x xs n l h = ⊎_elim (λ e. absurd (omega (arith, e))) (λ m. m) (Contains-cases x xs n h)

first_least : (x y : ℕ) (ys : List ℕ) → IsStrictlyIncreasing (y ∷ ys) → Contains (y ∷ ys) x → y < suc x
first_least x y ys r h = ⊎_elim (λ e. omega (arith, e)) (λ m. omega (arith, below_members y ys x r m)) (Contains-cases y ys x h)

-- rising lists with the same members are one list
pub same_rising : (xs ys : List ℕ) → IsStrictlyIncreasing xs → IsStrictlyIncreasing ys → HaveSameMembers xs ys → xs ≡ ys
same_rising [] [] r s h = refl
same_rising [] (y ∷ ys) r s h = let m = (h y).1 (Contains-here y ys) in absurd (omega (arith, m.1))
same_rising (x ∷ xs) [] r s h = let m = (h x).0 (Contains-here x xs) in absurd (omega (arith, m.1))
same_rising (x ∷ xs) (y ∷ ys) r s h =
    let a = first_least x y ys s ((h x).0 (Contains-here x xs)) in
    let b = first_least y x xs r ((h y).1 (Contains-here y ys)) in
    let e : x ≡ y = omega arith in
    let rest : HaveSameMembers xs ys = λ n. (
      (λ m. member_past y ys n (omega (arith, e, below_members x xs n r m)) ((h n).0 (Contains-there x xs n m))),
      (λ m. member_past x xs n (omega (arith, e, below_members y ys n s m)) ((h n).1 (Contains-there y ys n m))),
    ) in
    rw (e, same_rising xs ys (rising_tail x xs r) (rising_tail y ys s) rest) refl

-- ---- the same within bounds, for lists in parts

-- numbers that rise strictly, all of them from low on and below high
pub Rises : ℕ → ℕ → List ℕ → Type 0
Rises low high [] = low ≤ high
Rises low high (r ∷ rs) = (low ≤ r) × Rises (suc r) high rs

pub Rises-more : (low high r : ℕ) (rs : List ℕ) → low ≤ r → Rises (suc r) high rs → Rises low high (r ∷ rs)
unfolding Rises
Rises-more low high r rs l h = (l, h)

pub Rises-none : (low high : ℕ) → low ≤ high → Rises low high []
unfolding Rises
Rises-none low high l = l

pub Rises-append : (low mid high : ℕ) (rs ss : List ℕ) → Rises low mid rs → Rises mid high ss → Rises low high (rs ++ ss)
unfolding Rises
Rises-append low mid high [] [] h k = omega arith
Rises-append low mid high [] (s ∷ ss) h k = (omega (arith, h, k.0), k.1)
Rises-append low mid high (r ∷ rs) ss h k = (h.0, Rises-append (suc r) mid high rs ss h.1 k)

pub Rises-lower : (low low' high : ℕ) (rs : List ℕ) → low' ≤ low → Rises low high rs → Rises low' high rs
unfolding Rises
Rises-lower low low' high [] l h = omega arith
Rises-lower low low' high (r ∷ rs) l h = (omega (arith, h.0), h.1)

pub increasing_from_Rises : (low high : ℕ) (rs : List ℕ) → Rises low high rs → IsStrictlyIncreasing rs
unfolding Rises
increasing_from_Rises low high [] h k l = absurd (omega arith)
increasing_from_Rises low high (r ∷ []) h k l = absurd (omega arith)
increasing_from_Rises low high (r ∷ s ∷ rs) h zero l = omega (arith, h.1.0)
increasing_from_Rises low high (r ∷ s ∷ rs) h (suc k) l =
    let e : suc k + 1 ≡ suc (k + 1) = omega arith in
    let l' : k + 1 < length (s ∷ rs) = omega arith in
    rw e (increasing_from_Rises (suc r) high (s ∷ rs) h.1 k l')

-- each member stands between the bounds
pub Rises-members : (low high : ℕ) (rs : List ℕ) (n : ℕ) → Rises low high rs → Contains rs n → (low ≤ n) × (n < high)
unfolding Rises
Rises-members low high [] n h m = absurd (Contains-none n m)
Rises-members low high (r ∷ rs) n h m = ⊎_elim (λ e. (omega (arith, h.0, e), omega (arith, e, least r rs h.1))) (λ k. let rest = Rises-members (suc r) high rs n h.1 k in (omega (arith, h.0, rest.0), rest.1)) (Contains-cases r rs n m)
  where
    least : (s : ℕ) (ss : List ℕ) → Rises (suc s) high ss → s < high
    least s [] k = omega (arith, k)
    least s (t ∷ ts) k = omega (arith, k.0, least t ts k.1)

-- what stands before is less than what stands behind
pub Rises-apart : (low high : ℕ) (rs ss : List ℕ) (m n : ℕ) → Rises low high (rs ++ ss) → Contains rs m → Contains ss n → m < n
unfolding Rises
Rises-apart low high [] ss m n h c d = absurd (Contains-none m c)
Rises-apart low high (r ∷ rs) ss m n h c d =
    ⊎_elim (λ e. omega (arith, e, (Rises-members (suc r) high (rs ++ ss) n h.1 (behind rs)).0)) (λ k. Rises-apart (suc r) high rs ss m n h.1 k d) (Contains-cases r rs m c)
  where
    behind : (xs : List ℕ) → Contains (xs ++ ss) n
    behind [] = d
    behind (x ∷ xs) = Contains-there x (xs ++ ss) n (behind xs)
