-- Numbers of which none stands twice.
use Rattle.std.proofs.Common.{◌≡◌, ℕ, Bool, true, false, eqb, List, [], ◌∷◌, ◌++◌, length, refl, sym, subst, arith}
use Rattle.std.specs.List.{AllByRecursion, Contains, IsDistinct, flat_map}
use Rattle.std.specs.List.Sorted.{IsStrictlyIncreasing}
use Rattle.std.specs.Set.{is_member}
use Rattle.std.proofs.lemmas.Bool.{ne_eqb}
use Rattle.std.proofs.lemmas.Bool.Decides.{Decides-eqb}
use Rattle.std.proofs.lemmas.Cmp.{nat_eq_equiv}
use Rattle.std.proofs.lemmas.Map.Made.{is_member-Decides, length-from_same_keys}
use Rattle.std.proofs.lemmas.List.Elements.{All-contains, All-from_recursion}
use Rattle.kv_model.proofs.Members.{Contains-here, Contains-there, Contains-from_flat_map}
use Rattle.kv_model.proofs.Rising.{HaveSameMembers, below_members, rising_tail}

pub all_members : {X : Type 0} (P : X → Type 0) (xs : List X) → ((x : X) → Contains xs x → P x) → AllByRecursion P xs
all_members P [] h = tt
all_members P (x ∷ xs) h = (h x (Contains-here x xs), all_members P xs (λ y m. h y (Contains-there x xs y m)))

pub distinct_rising : (xs : List ℕ) → IsStrictlyIncreasing xs → IsDistinct eqb xs
unfolding IsDistinct
distinct_rising [] r = tt
distinct_rising (x ∷ xs) r =
    (all_members (λ y. eqb x y ≡ false) xs (λ y m. ne_eqb x y (λ e. omega (arith, e, below_members x xs y r m))), distinct_rising xs (rising_tail x xs r))

all_append : {X : Type 0} (P : X → Type 0) (xs ys : List X) → AllByRecursion P xs → AllByRecursion P ys → AllByRecursion P (xs ++ ys)
all_append P [] ys a b = b
all_append P (x ∷ xs) ys a b = (a.0, all_append P xs ys a.1 b)

pub distinct_append : (xs ys : List ℕ) → IsDistinct eqb xs → IsDistinct eqb ys → ((n : ℕ) → Contains xs n → Contains ys n → ⊥) → IsDistinct eqb (xs ++ ys)
unfolding IsDistinct
distinct_append [] ys a b h = b
distinct_append (x ∷ xs) ys a b h =
    let apart = all_members (λ y. eqb x y ≡ false) ys (λ y m. ne_eqb x y (λ e. h x (Contains-here x xs) (same y e m))) in
    (all_append (λ y. eqb x y ≡ false) xs ys a.0 apart, distinct_append xs ys a.1 b (λ n m. h n (Contains-there x xs n m)))
  where
    same : (y : ℕ) → x ≡ y → Contains ys y → Contains ys x
    same y e m = subst (λ z. Contains ys z) (sym e) m

-- each two that stand at different places are apart
abbrev pub AllApart : {P : Type 0} → (P → P → Type 0) → List P → Type 0
AllApart Apart [] = Unit {0}
AllApart Apart (p ∷ ps) = AllByRecursion (Apart p) ps × AllApart Apart ps

-- parts in which none stands twice, and none in two of them
pub distinct_parts : {P : Type 0} (f : P → List ℕ) (Apart : P → P → Type 0) (ps : List P) → ((p : P) → Contains ps p → IsDistinct eqb (f p)) → ((p q : P) (n : ℕ) → Contains ps p → Contains ps q → Contains (f p) n → Contains (f q) n → Apart p q → ⊥) → AllApart Apart ps → IsDistinct eqb (flat_map f ps)
distinct_parts f Apart [] d h a = distinct_rising [] (λ k l. absurd (omega (arith, l)))
distinct_parts f Apart (p ∷ ps) d h a =
    distinct_append (f p) (flat_map f ps) (d p (Contains-here p ps))
    (distinct_parts f Apart ps (λ q m. d q (Contains-there p ps q m)) (λ q r n m k. h q r n (Contains-there p ps q m) (Contains-there p ps r k)) a.1)
    (λ n m k. let part = Contains-from_flat_map f ps n k in h p part.0 n (Contains-here p ps) (Contains-there p ps part.0 part.1) m part.2 (All-contains (Apart p) ps part.0 (All-from_recursion (Apart p) ps a.0) part.1))

-- where the same numbers stand in both lists, they are as long
pub same_length : (xs ys : List ℕ) → IsDistinct eqb xs → IsDistinct eqb ys → HaveSameMembers xs ys → length xs ≡ length ys
same_length xs ys d e same = length-from_same_keys nat_eq_equiv xs ys d e (λ q. agree q (is_member eqb xs q) refl (is_member eqb ys q) refl)
  where
    agree : (q : ℕ) (a : Bool) → is_member eqb xs q ≡ a → (b : Bool) → is_member eqb ys q ≡ b → a ≡ b
    agree q true s true t = refl
    agree q false s false t = refl
    agree q true s false t = let m = (is_member-Decides Decides-eqb ys q).1 ((same q).0 ((is_member-Decides Decides-eqb xs q).0 s)) in cc
    agree q false s true t = let m = (is_member-Decides Decides-eqb xs q).1 ((same q).1 ((is_member-Decides Decides-eqb ys q).0 t)) in cc
