-- A word stands for bytes exactly where it is their base64.
use Rattle.std.proofs.Common.{◌≡◌, ◌<◌, ℕ, Bool, true, false, cond, List, [], length, Option, Some, None, Result, Ok, Err, codes, refl, sym, ap, subst, arith, inl, inr}
use Rattle.std.specs.Prelude.{◌↔◌, bytes_eq, nat_lt, option_and_then, unwrap_or}
use Rattle.std.specs.Result.{result_ok}
use Rattle.std.proofs.lemmas.Bool.{cases_Bool, lt-ltb}
use Rattle.std.proofs.lemmas.Slice.Eq.{bytes_eq-Decides}
use Rattle.base64.specs.Engines.{standard}
use Rattle.base64.specs.GeneralPurpose.{IsBytes, decode_of, decoded_of, encode_of}
use Rattle.base64.proofs.EngineFacts.{decode_of_iff}
use Rattle.base64.proofs.OnLiterals.{base64_on_literals}
use Rattle.kv_script.specs.Words.{unless_empty, value_of}

-- a dash decodes to nothing
dash_decodes_not : decoded_of standard (codes "-") ≡ None
unfolding base64_on_literals
dash_decodes_not = refl

decoded_is : (word value : List ℕ) → decode_of standard word ≡ Ok value → decoded_of standard word ≡ Some value
unfolding decoded_of
decoded_is word value e = ap result_ok e

of_some : (o : Option (List ℕ)) (value : List ℕ) → option_and_then unless_empty o ≡ Some value → o ≡ Some value
of_some None value e = absurd (let no : ⊥ = cc in no)
of_some (Some bytes) value e = by_length (nat_lt 0 (length bytes)) e
  where
    by_length : (some : Bool) → cond some (Some bytes) None ≡ Some value → Some bytes ≡ Some value
    by_length true h = h
    by_length false h = absurd (let no : ⊥ = cc in no)

of_result : {E : Type 0} (r : Result (List ℕ) E) (value : List ℕ) → result_ok r ≡ Some value → r ≡ Ok value
of_result {E} (Ok bytes) value e = ap (λ o. Ok (unwrap_or o bytes)) e
of_result {E} (Err error) value e = absurd (let no : ⊥ = cc in no)

decodes : (word value : List ℕ) → decoded_of standard word ≡ Some value → decode_of standard word ≡ Ok value
unfolding decoded_of
decodes word value e = of_result (decode_of standard word) value e

from_value : (word value : List ℕ) → 0 < length value → value_of word ≡ Some value → decode_of standard word ≡ Ok value
from_value word value some e = by_dash (bytes_eq word (codes "-")) e
  where
    by_dash : (dash : Bool) → cond dash (Some []) (option_and_then unless_empty (decoded_of standard word)) ≡ Some value → decode_of standard word ≡ Ok value
    by_dash true h = let none : value ≡ [] = ap (λ o. unwrap_or o []) (sym h) in absurd (omega (arith, some, ap length none))
    by_dash false h = decodes word value (of_some (decoded_of standard word) value h)

to_value : (word value : List ℕ) → 0 < length value → decode_of standard word ≡ Ok value → value_of word ≡ Some value
to_value word value some e = elim (cases_Bool (bytes_eq word (codes "-"))) [
  | inl dash ↦
      let is : word ≡ codes "-" = (bytes_eq-Decides word (codes "-")).0 dash in
      let both : decoded_of standard (codes "-") ≡ Some value = subst (λ w. decoded_of standard w ≡ Some value) is (decoded_is word value e) in
      absurd (let no : ⊥ = cc in no)
  | inr other ↦ rw (other, decoded_is word value e, lt-ltb 0 (length value) some) refl
]

pub value_word : (word value : List ℕ) → IsBytes word → IsBytes value → 0 < length value → (value_of word ≡ Some value) ↔ (word ≡ encode_of standard value)
value_word word value sw sv some =
    let iff = decode_of_iff standard word value (refl, refl) sw sv in
    (λ e. iff.0 (from_value word value some e), λ e. to_value word value some (iff.1 e))
