-- What `parse` gives for digits.
use Rattle.std.proofs.Common.{◌≡◌, ℕ, ◌^◌, ◌<◌, ◌≤◌, ltb, true, List, length, Result, Ok, Err, Some, None, cond, refl, ap}
use Rattle.std.specs.Result.{result_ok, OkIff}
use Rattle.std.specs.Str.{all_ascii_digits}
use Rattle.std.specs.Str.Parse.{digits_value, ParsesUnsigned}
use Rattle.std.proofs.lemmas.Bool.{lt-ltb, le-leb, false_from_ne_true, ltb-true}
use Rattle.kv_script.specs.Words.{number_of}
use Rattle.std.proofs.lemmas.Str.Parse.{IsNumeralModel, numerals_by_value, tells_all_ascii_digits, parse_digits}

own : IsNumeralModel (λ word. all_ascii_digits word ≡ true) (digits_value 10)
own = numerals_by_value (λ word. all_ascii_digits word ≡ true) tells_all_ascii_digits

from_iff : {E : Type 0} (r : Result ℕ E) (word : List ℕ) → 0 < length word → OkIff r ((0 < length word) × (digits_value 10 word < 2 ^ 64)) (digits_value 10 word)
    → result_ok r ≡ cond (ltb (digits_value 10 word) (2 ^ 64)) (Some (digits_value 10 word)) None
from_iff (Ok n) word some h =
    rw (lt-ltb (digits_value 10 word) (2 ^ 64) h.0.1) (ap Some h.1)
from_iff (Err e) word some h =
    rw (false_from_ne_true (ltb (digits_value 10 word) (2 ^ 64)) (λ fits. h (some, ltb-true (digits_value 10 word) (2 ^ 64) fits))) refl

pub parsed_digits : {E : Type 0} (r : Result ℕ E) (word : List ℕ) → all_ascii_digits word ≡ true → 0 < length word → ParsesUnsigned 64 10 word r
    → result_ok r ≡ cond (ltb (digits_value 10 word) (2 ^ 64)) (Some (digits_value 10 word)) None
parsed_digits r word digits some h = from_iff r word some (parse_digits own 64 word r h digits)

pub number_of-digits : (word : List ℕ) → 0 < length word → length word ≤ 20 → all_ascii_digits word ≡ true
    → number_of word ≡ cond (ltb (digits_value 10 word) (2 ^ 64)) (Some (digits_value 10 word)) None
number_of-digits word some short digits =
    rw (lt-ltb 0 (length word) some, le-leb (length word) 20 short, digits) refl
