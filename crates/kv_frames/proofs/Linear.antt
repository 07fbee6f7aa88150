-- Eight bits are shifted out by one look at a table: shifting is linear, and the high bits take no part in it.
use Rattle.std.proofs.Common.{◌≡◌, ℕ, zero, suc, ◌*◌, ◌/◌, ◌%◌, ◌<◌, ◌⊎◌, refl, sym, ap, ◌∙◌, inl, inr, arith}
use Rattle.std.specs.Prelude.{bit_xor}
use Rattle.std.proofs.lemmas.Bool.{cases_eq}
use Rattle.std.proofs.lemmas.Nat.{xor_shr, xor_mod, xor_comm, mod_below, shr_split}
use lib.Bits.{xor_assoc, xor_self, xor_zero_l, xor_zero_r, xor_shifted}
use Rattle.kv_frames.specs.Checksum.{shifted, shifted_by, with_byte}

-- the polynomial
abbrev P : ℕ
P = 0x82F63B78

odd_or_even : (n : ℕ) → (n % 2 ≡ 1) ⊎ (n % 2 ≡ 0)
odd_or_even n =
    elim (cases_eq (n % 2) 1) [
      | inl odd ↦ inl odd
      | inr other ↦ inr (omega (arith, other, mod_below n 2 (omega arith)))
    ]

when_odd : (n : ℕ) → n % 2 ≡ 1 → shifted n ≡ bit_xor (n / 2) P
unfolding shifted
when_odd n h = rw h refl

when_even : (n : ℕ) → n % 2 ≡ 0 → shifted n ≡ n / 2
unfolding shifted
when_even n h = rw h refl

low_bit : (a b i j : ℕ) → a % 2 ≡ i → b % 2 ≡ j → bit_xor a b % 2 ≡ bit_xor i j
low_bit a b i j ha hb = xor_mod a b 1 ∙ ap (λ (x : ℕ). bit_xor x (b % 2)) ha ∙ ap (λ (y : ℕ). bit_xor i y) hb

high_bits : (a b : ℕ) → bit_xor a b / 2 ≡ bit_xor (a / 2) (b / 2)
high_bits a b = xor_shr a b 1

turned : (x y p : ℕ) → bit_xor (bit_xor x y) p ≡ bit_xor (bit_xor x p) y
turned x y p = xor_assoc x y p ∙ ap (λ (z : ℕ). bit_xor x z) (xor_comm y p) ∙ sym (xor_assoc x p y)

cancelled : (x y p : ℕ) → bit_xor (bit_xor x p) (bit_xor y p) ≡ bit_xor x y
cancelled x y p =
    xor_assoc x p (bit_xor y p)
    ∙ ap (λ (z : ℕ). bit_xor x (bit_xor p z)) (xor_comm y p)
    ∙ ap (λ (z : ℕ). bit_xor x z) (sym (xor_assoc p p y))
    ∙ ap (λ (z : ℕ). bit_xor x (bit_xor z y)) (xor_self p)
    ∙ ap (λ (z : ℕ). bit_xor x z) (xor_zero_l y)

shifted_xor : (a b : ℕ) → shifted (bit_xor a b) ≡ bit_xor (shifted a) (shifted b)
shifted_xor a b =
    let both = λ (x y : ℕ). λ (ha : shifted a ≡ x). λ (hb : shifted b ≡ y). ap (λ (z : ℕ). bit_xor z y) (sym ha) ∙ ap (λ (z : ℕ). bit_xor (shifted a) z) (sym hb) in
    elim (odd_or_even a) [
      | inl oa ↦ elim (odd_or_even b) [
        | inl ob ↦ when_even (bit_xor a b) (low_bit a b 1 1 oa ob) ∙ high_bits a b ∙ sym (cancelled (a / 2) (b / 2) P)
            ∙ both (bit_xor (a / 2) P) (bit_xor (b / 2) P) (when_odd a oa) (when_odd b ob)
        | inr eb ↦ when_odd (bit_xor a b) (low_bit a b 1 0 oa eb) ∙ ap (λ (z : ℕ). bit_xor z P) (high_bits a b) ∙ turned (a / 2) (b / 2) P
            ∙ both (bit_xor (a / 2) P) (b / 2) (when_odd a oa) (when_even b eb)
      ]
      | inr ea ↦ elim (odd_or_even b) [
        | inl ob ↦ when_odd (bit_xor a b) (low_bit a b 0 1 ea ob) ∙ ap (λ (z : ℕ). bit_xor z P) (high_bits a b) ∙ xor_assoc (a / 2) (b / 2) P
            ∙ both (a / 2) (bit_xor (b / 2) P) (when_even a ea) (when_odd b ob)
        | inr eb ↦ when_even (bit_xor a b) (low_bit a b 0 0 ea eb) ∙ high_bits a b
            ∙ both (a / 2) (b / 2) (when_even a ea) (when_even b eb)
      ]
    ]

shifted_by_xor : (k a b : ℕ) → shifted_by k (bit_xor a b) ≡ bit_xor (shifted_by k a) (shifted_by k b)
unfolding shifted_by
shifted_by_xor zero a b = refl
shifted_by_xor (suc k) a b = ap (shifted_by k) (shifted_xor a b) ∙ shifted_by_xor k (shifted a) (shifted b)

shifted_double : (m : ℕ) → shifted (m * 2) ≡ m
shifted_double m = when_even (m * 2) (omega arith) ∙ omega arith

double : (n m : ℕ) → n ≡ m * 2 → shifted n ≡ m
double n m e = ap shifted e ∙ shifted_double m

-- the high bits come down as they are
high_eight : (m : ℕ) → shifted_by 8 (m * 256) ≡ m
unfolding shifted_by
high_eight m =
    let a : shifted (m * 256) ≡ m * 128 = double (m * 256) (m * 128) (omega arith) in
    let b : shifted (m * 128) ≡ m * 64 = double (m * 128) (m * 64) (omega arith) in
    let c : shifted (m * 64) ≡ m * 32 = double (m * 64) (m * 32) (omega arith) in
    let d : shifted (m * 32) ≡ m * 16 = double (m * 32) (m * 16) (omega arith) in
    let e : shifted (m * 16) ≡ m * 8 = double (m * 16) (m * 8) (omega arith) in
    let f : shifted (m * 8) ≡ m * 4 = double (m * 8) (m * 4) (omega arith) in
    let g : shifted (m * 4) ≡ m * 2 = double (m * 4) (m * 2) (omega arith) in
    rw (a, b, c, d, e, f, g) (shifted_double m)

pub by_table : (n : ℕ) → shifted_by 8 n ≡ bit_xor (n / 256) (shifted_by 8 (n % 256))
by_table n =
    let parts : bit_xor (n / 256 * 256) (n % 256) ≡ n = xor_shifted (n / 256) 8 (n % 256) (mod_below n 256 (omega arith)) ∙ shr_split n 8 in
    ap (shifted_by 8) (sym parts) ∙ shifted_by_xor 8 (n / 256 * 256) (n % 256) ∙ ap (λ (z : ℕ). bit_xor z (shifted_by 8 (n % 256))) (high_eight (n / 256))

-- one more byte, by the table
pub one_byte : (crc byte : ℕ) → byte < 256 → with_byte crc byte ≡ bit_xor (crc / 256) (shifted_by 8 (bit_xor crc byte % 256))
unfolding with_byte
one_byte crc byte low =
    let none : byte / 256 ≡ 0 = omega (arith, low) in
    let high : bit_xor crc byte / 256 ≡ crc / 256 = xor_shr crc byte 8 ∙ ap (λ (z : ℕ). bit_xor (crc / 256) z) none ∙ xor_zero_r (crc / 256) in
    by_table (bit_xor crc byte) ∙ ap (λ (z : ℕ). bit_xor z (shifted_by 8 (bit_xor crc byte % 256))) high
