-- The checksum, byte by byte.
use Rattle.std.proofs.Common.{◌≡◌, ℕ, suc, ◌-◌, ◌+◌, ◌<◌, ◌≤◌, List, ◌++◌, refl, sym, ap, ◌∙◌, arith}
use Rattle.std.specs.List.{fold}
use Rattle.std.specs.Int.{w64, to_be_bytes}
use Rattle.std.specs.Prelude.{bit_xor}
use Rattle.std.proofs.lemmas.List.Sums.{fold-append}
use Rattle.kv_frames.specs.Checksum.{shifted, shifted_by, with_byte, checksum}

pub one_bit : (i n : ℕ) → i < 8 → shifted_by (8 - i) n ≡ shifted_by (8 - (i + 1)) (shifted n)
unfolding shifted_by
one_bit i n lt = let k : 8 - i ≡ suc (8 - (i + 1)) = omega arith in rw k refl

pub in_three : (seed at : ℕ) (payload : List ℕ) → bit_xor (fold with_byte (fold with_byte (fold with_byte 0xFFFFFFFF (to_be_bytes w64 seed)) (to_be_bytes w64 at)) payload) 0xFFFFFFFF ≡ checksum seed at payload
unfolding checksum
in_three seed at payload =
    let one = fold-append with_byte 0xFFFFFFFF (to_be_bytes w64 seed) (to_be_bytes w64 at ++ payload) in
    let two = fold-append with_byte (fold with_byte 0xFFFFFFFF (to_be_bytes w64 seed)) (to_be_bytes w64 at) payload in
    ap (λ (w : ℕ). bit_xor w 0xFFFFFFFF) (sym (one ∙ two))

pub no_bit_left : (i n : ℕ) → 8 ≤ i → shifted_by (8 - i) n ≡ n
unfolding shifted_by
no_bit_left i n all = let k : 8 - i ≡ 0 = omega arith in rw k refl
