-- The map of a branch: which bits are set, and where each child stands.
use Rattle.std.proofs.Common.{◌≡◌, ℕ, zero, suc, ◌+◌, ◌*◌, ◌/◌, ◌%◌, ◌^◌, ◌<◌, ◌≤◌, ◌==◌, List, [], ◌∷◌, length, Option, Some, None, refl, sym, ap, ◌∙◌, arith, add-zero, zero-add, zero-mul, mul-one, mod-eq_of_lt, subst, pow-suc, add-mul, mul_assoc, mul_comm, lit<}
use Rattle.std.specs.Prelude.{◌↔◌, count_ones}
use Rattle.std.specs.Int.{bit_at}
use Rattle.std.specs.List.{filter, slice_get}
use Rattle.std.proofs.lemmas.Nat.{mod_below, mod-pow-add}
use Rattle.std.proofs.lemmas.Nat.Bits.{bit_at-lt, bit_at_lowest, bit_at-suc}
use Rattle.std.proofs.Math.Numerals.{one-add}
use Rattle.std.proofs.Math.Pow.{pow_pos}
use lib.Count.{ones_cat, ones-ones, ones-le}
use Rattle.kv_trie.specs.Canonical.{slot_of, slots_of, form, pairs_at, IsBranchOf}
use Rattle.kv_trie.specs.Form.{Shape, Slots, leaf, branch, row, none, index_of, map_of, children_of}

-- ---- the count of set bits

-- the sum of n numbers from low on
abbrev count_from : (n low : ℕ) → (ℕ → ℕ) → ℕ
count_from zero low b = 0
count_from (suc n) low b = b low + count_from n (suc low) b

count_from-push : (n low : ℕ) (b : ℕ → ℕ) → count_from (suc n) low b ≡ count_from n low b + b (low + n)
count_from-push zero low b = simp add-zero (omega arith)
count_from-push (suc n) low b =
    let e = count_from-push n (suc low) b in
    let k : suc low + n ≡ low + suc n = omega arith in
    rw (← k) (omega (arith, e))

count_from-same : (n low : ℕ) (b c : ℕ → ℕ) → ((i : ℕ) → i < low + n → b i ≡ c i) → count_from n low b ≡ count_from n low c
count_from-same zero low b c h = refl
count_from-same (suc n) low b c h =
    rw (h low (omega arith), count_from-same n (suc low) b c (λ i l. h i (omega arith))) refl

small_ones : (v : ℕ) → v < 2 → count_ones v ≡ v
small_ones zero h = let l = ones-le 0 0 (lit< tt) in omega arith
small_ones (suc zero) h = ones-ones 1
small_ones (suc (suc v)) h = absurd (omega arith)

count_of_low : (map i : ℕ) → count_ones (map % 2 ^ i) ≡ count_from i 0 (bit_at map)
count_of_low map zero = let e : map % 1 < 1 = mod_below map 1 (omega arith) in let z : map % 1 ≡ 0 = omega arith in rw z (small_ones 0 (omega arith))
count_of_low map (suc i) =
    let k : 1 + i ≡ suc i = one-add i in
    let e = rw k at (mod-pow-add map 1 i) in
    let f = ones_cat i (bit_at map i) (map % 2 ^ i) (mod_below map (2 ^ i) (pow_pos i)) in
    let o = small_ones (bit_at map i) (bit_at-lt map i) in
    let p = rw zero-add at (count_from-push i 0 (bit_at map)) in
    let q = count_of_low map i in
    ap count_ones e ∙ f ∙ omega arith

-- ---- the bits of a map

-- one where there is something
abbrev one : {A : Type 0} → Option A → ℕ
one None = 0
one (Some x) = 1

one_small : {A : Type 0} (o : Option A) → one o < 2
one_small None = omega arith
one_small (Some x) = omega arith

shifted : (x b p q : ℕ) → q ≡ p * 2 → b * p + x * q ≡ (x * 2 + b) * p
shifted x b p q h = rw (h, add-mul, mul_assoc) (omega (arith, mul_comm 2 p, mul_comm p 2))

halved : (x b : ℕ) → b < 2 → (x * 2 + b) / 2 ≡ x
halved x b h = omega (arith, h)

odd : (x b : ℕ) → b < 2 → (x * 2 + b) % 2 ≡ b
odd x b h = omega (arith, h)

module _ {P : Type 0} (f : List P → Option (Shape P)) (index : P → ℕ) (pairs : List P) where
  -- the child of an index
  abbrev child : ℕ → Option (Shape P)
  child i = f (filter (λ p. index p == i) pairs)

  abbrev is_child : ℕ → ℕ
  is_child i = one (child i)

  -- n bits of the map, from the bit low on
  abbrev bits : (n low : ℕ) → ℕ
  bits zero low = 0
  bits (suc n) low = bits n (suc low) * 2 + one (child low)

  map_of-slot : (low : ℕ) (c : Option (Shape P)) (slots : Slots P) → map_of (slot_of low c slots) ≡ one c * 2 ^ low + map_of slots
  map_of-slot low None slots = omega (arith, zero-mul (2 ^ low))
  map_of-slot low (Some c) slots = omega arith

  map_is : (n low : ℕ) → map_of (slots_of f index n low pairs) ≡ bits n low * 2 ^ low
  map_is zero low = sym (zero-mul (2 ^ low))
  map_is (suc n) low =
      map_of-slot low (child low) (slots_of f index n (suc low) pairs)
      ∙ ap (λ m. one (child low) * 2 ^ low + m) (map_is n (suc low))
      ∙ shifted (bits n (suc low)) (one (child low)) (2 ^ low) (2 ^ suc low) (pow-suc 2 low)

  bits_below : (n low : ℕ) → bits n low < 2 ^ n
  bits_below zero low = omega arith
  bits_below (suc n) low = omega (arith, bits_below n (suc low), one_small (child low), pow-suc 2 n)

  bit_is : (n d low : ℕ) → d < n → bit_at (bits n low) d ≡ is_child (low + d)
  bit_is zero d low h = absurd (omega arith)
  bit_is (suc n) zero low h =
      bit_at_lowest (bits (suc n) low) ∙ odd (bits n (suc low)) (one (child low)) (one_small (child low)) ∙ ap is_child (sym (add-zero low))
  bit_is (suc n) (suc d) low h =
      let k : suc low + d ≡ low + suc d = omega arith in
      bit_at-suc (bits (suc n) low) d
      ∙ ap (λ m. bit_at m d) (halved (bits n (suc low)) (one (child low)) (one_small (child low)))
      ∙ bit_is n d (suc low) (omega arith) ∙ ap is_child k

  -- ---- the children

  length-slot : (low : ℕ) (c : Option (Shape P)) (slots : Slots P) → length (children_of (slot_of low c slots)) ≡ one c + length (children_of slots)
  length-slot low None slots = omega arith
  length-slot low (Some c) slots = omega arith

  length_is : (n low : ℕ) → length (children_of (slots_of f index n low pairs)) ≡ count_from n low is_child
  length_is zero low = refl
  length_is (suc n) low =
      length-slot low (child low) (slots_of f index n (suc low) pairs) ∙ ap (λ m. one (child low) + m) (length_is n (suc low))

  first_child : (low : ℕ) (c : Option (Shape P)) (slots : Slots P) → one c ≡ 1 → slice_get (children_of (slot_of low c slots)) 0 ≡ c
  first_child low None slots h = absurd (omega arith)
  first_child low (Some c) slots h = refl

  next_child : (low k : ℕ) (c : Option (Shape P)) (slots : Slots P) → slice_get (children_of (slot_of low c slots)) (one c + k) ≡ slice_get (children_of slots) k
  next_child low k None slots = ap (slice_get (children_of slots)) (zero-add k)
  next_child low k (Some c) slots = ap (slice_get (c ∷ children_of slots)) (one-add k)

  child_is : (n d low : ℕ) → d < n → is_child (low + d) ≡ 1 → slice_get (children_of (slots_of f index n low pairs)) (count_from d low is_child) ≡ child (low + d)
  child_is zero d low h e = absurd (omega arith)
  child_is (suc n) zero low h e =
      let k : low + 0 ≡ low = add-zero low in
      first_child low (child low) (slots_of f index n (suc low) pairs) (rw k at e) ∙ ap child (sym k)
  child_is (suc n) (suc d) low h e =
      let k : suc low + d ≡ low + suc d = omega arith in
      next_child low (count_from d (suc low) is_child) (child low) (slots_of f index n (suc low) pairs)
      ∙ child_is n d (suc low) (omega arith) (ap is_child k ∙ e) ∙ ap child k

-- ---- of the form of pairs

module _ {K V : Type 0} (place : K → ℕ) where
  form_there : (left : ℕ) (es : List (K × V)) → (one (form place left es) ≡ 1) ↔ (0 < length es)
  form_there left [] = ((λ e. absurd (omega arith)), (λ l. absurd (omega arith)))
  form_there left (p ∷ []) = ((λ e. omega arith), (λ l. refl))
  form_there zero (p ∷ q ∷ es) = ((λ e. omega arith), (λ l. refl))
  form_there (suc left) (p ∷ q ∷ es) = ((λ e. omega arith), (λ l. refl))

  abbrev key_child : (left : ℕ) (pairs : List (K × V)) → ℕ → ℕ
  key_child left pairs i = one (form place left (pairs_at place left i pairs))

  module _ (left : ℕ) (pairs : List (K × V)) where
    abbrev all : Slots (K × V)
    all = slots_of (form place left) (λ e. index_of left (place e.0)) 32 0 pairs

    map_all : map_of all ≡ bits (form place left) (λ e. index_of left (place e.0)) pairs 32 0
    map_all = map_is (form place left) (λ e. index_of left (place e.0)) pairs 32 0 ∙ mul-one (bits (form place left) (λ e. index_of left (place e.0)) pairs 32 0)

    small_all : map_of all < 2 ^ 32
    small_all = rw map_all (bits_below (form place left) (λ e. index_of left (place e.0)) pairs 32 0)

    bit_all : (i : ℕ) → i < 32 → bit_at (map_of all) i ≡ key_child left pairs i
    bit_all i h =
        ap (λ m. bit_at m i) map_all
        ∙ bit_is (form place left) (λ e. index_of left (place e.0)) pairs 32 i 0 h
        ∙ ap (key_child left pairs) (zero-add i)

    counted : (i : ℕ) → i ≤ 32 → count_ones (map_of all % 2 ^ i) ≡ count_from i 0 (key_child left pairs)
    counted i h = count_of_low (map_of all) i ∙ count_from-same i 0 (bit_at (map_of all)) (key_child left pairs) (λ j l. bit_all j (omega arith))

    set_all : (i : ℕ) → i < 32 → (bit_at (map_of all) i ≡ 1) ↔ (0 < length (pairs_at place left i pairs))
    set_all i h =
        let there = form_there left (pairs_at place left i pairs) in
        ((λ e. there.0 (sym (bit_all i h) ∙ e)), (λ l. bit_all i h ∙ there.1 l))

    length_all : length (children_of all) ≡ count_ones (map_of all)
    length_all =
        length_is (form place left) (λ e. index_of left (place e.0)) pairs 32 0
        ∙ sym (counted 32 (omega arith)) ∙ ap count_ones (mod-eq_of_lt small_all)

    child_all : (i : ℕ) → i < 32 → bit_at (map_of all) i ≡ 1 → slice_get (children_of all) (count_ones (map_of all % 2 ^ i)) ≡ form place left (pairs_at place left i pairs)
    child_all i h e =
        let k : 0 + i ≡ i = zero-add i in
        ap (slice_get (children_of all)) (counted i (omega arith))
        ∙ child_is (form place left) (λ e. index_of left (place e.0)) pairs 32 i 0 h (ap (key_child left pairs) k ∙ sym (bit_all i h) ∙ e)
        ∙ ap (λ j. form place left (pairs_at place left j pairs)) k

    is_branch_of : IsBranchOf place left pairs all
    is_branch_of = record { map = small_all; set = set_all; children = length_all; child = child_all }

  abbrev slots_in : Option (Shape (K × V)) → Slots (K × V)
  slots_in None = none
  slots_in (Some (leaf p)) = none
  slots_in (Some (branch slots)) = slots
  slots_in (Some (row pairs)) = none

  abbrev has_slots : Option (Shape (K × V)) → ℕ
  has_slots None = 0
  has_slots (Some (leaf p)) = 0
  has_slots (Some (branch slots)) = 1
  has_slots (Some (row pairs)) = 0

  -- the form of a branch is a map and its children
  pub branch_of : (left : ℕ) (pairs : List (K × V)) (slots : Slots (K × V)) → form place (suc left) pairs ≡ Some (branch slots) → IsBranchOf place left pairs slots
  branch_of left [] slots h = let e : 0 ≡ 1 = ap has_slots h in absurd (omega (arith, e))
  branch_of left (p ∷ []) slots h = let e : 0 ≡ 1 = ap has_slots h in absurd (omega (arith, e))
  branch_of left (p ∷ q ∷ es) slots h = subst (IsBranchOf place left (p ∷ q ∷ es)) (ap slots_in h) (is_branch_of left (p ∷ q ∷ es))
