-- The digits of a place.
use Rattle.std.proofs.Common.{◌≡◌, ℕ, zero, suc, ◌/◌, ◌%◌, ◌<◌, ◌^◌, true, List, [], ◌∷◌, length, slice_index, Ok, refl, arith, lit<}
use Rattle.std.specs.Int.{byte_at, bytes_high_first, to_be_bytes, w32}
use Rattle.std.proofs.Math.Nat.{mod-lt}
use Rattle.std.proofs.lemmas.Bool.{agree_below_at, and_from}
use Rattle.json.specs.Print.{quoted}
use Rattle.hex.specs.Hex.{IsBytes, decode_of, encode_with, lower_digits}
use Rattle.hex.proofs.HexLemmas.{decode_of-encode_lower, length-encode_with}
use Rattle.kv_script.specs.Line.{in_quotes}
use Rattle.kv_script.specs.Plain.{IsPlain, is_plain_byte}
use Rattle.kv_script.specs.Text.{place_digits}
use Rattle.kv_script.proofs.Escapes.{quoted_plain}

pub eight_digits : (place : ℕ) → length (place_digits place) ≡ 8
eight_digits place = length-encode_with lower_digits (to_be_bytes w32 place)

byte_small : (k place : ℕ) → byte_at k place < 256
byte_small zero place = mod-lt place (lit< tt)
byte_small (suc k) place = mod-lt (place / 256 ^ suc k) (lit< tt)

high_first_bytes : (k place : ℕ) → IsBytes (bytes_high_first k place)
high_first_bytes zero place i = omega arith
high_first_bytes (suc k) place zero = byte_small k place
high_first_bytes (suc k) place (suc i) = high_first_bytes k place i

pub digits_value : (place : ℕ) → decode_of (place_digits place) ≡ Ok (to_be_bytes w32 place)
digits_value place = decode_of-encode_lower (to_be_bytes w32 place) (high_first_bytes 4 place)

digit_plain : (k : ℕ) → k < 16 → is_plain_byte (slice_index lower_digits k) ≡ true
digit_plain k h = agree_below_at (λ i. is_plain_byte (slice_index lower_digits i)) (λ _. true) 16 k refl h

digits_plain : (bytes : List ℕ) → IsBytes bytes → IsPlain (encode_with lower_digits bytes)
unfolding encode_with
digits_plain [] h = refl
digits_plain (byte ∷ bytes) h =
    let fits : byte < 256 = h 0 in
    and_from _ _ (digit_plain (byte / 16) (omega arith))
    (and_from _ _ (digit_plain (byte % 16) (omega arith)) (digits_plain bytes (λ i. h (suc i))))

pub quoted_place : (place : ℕ) → quoted (place_digits place) ≡ in_quotes (place_digits place)
quoted_place place = quoted_plain (place_digits place) (digits_plain (to_be_bytes w32 place) (high_first_bytes 4 place))
