-- What the options of a command line say.
use Rattle.std.proofs.Common.{◌≡◌, ◌^◌, ◌&&◌, ℕ, Bool, true, false, List, [], ◌∷◌, Option, Some, None, option_and_then, Result, Ok, Err, refl, ap, sym, codes, nat_lt, length, lt-ltb, ltb-true, option_map}
use Rattle.std.specs.Borrow.{Bor}
use Rattle.std.specs.Char.{digit_value}
use Rattle.std.specs.List.{list_all}
use Rattle.std.specs.Option.{option_map_or, unwrap_or}
use Rattle.std.specs.Result.{result_ok, result_unwrap_or}
use Rattle.std.specs.Str.Parse.{AllDigits, ParsesBool, ParsesUnsigned, digits_value, without_leading_plus}
use Rattle.std.specs.Str.{bytes_eq}
use Rattle.std.proofs.lemmas.Bool.{false_from_ne_true}
use Rattle.std.proofs.lemmas.Slice.Eq.{bytes_eq-Decides}
use Rattle.clap.proofs.WalkLemmas.{both}
use Rattle.clap.specs.Faults.{is_simple_and_free}
use Rattle.clap.specs.Matches.{ReadsOne}
use Rattle.clap.specs.Simple.{is_simple}
use Rattle.clap.specs.Walk.{Text}
use Rattle.kv_run.specs.Arguments.{number_of, number_or, program_app}

pub program_is_simple : is_simple program_app ≡ true
program_is_simple = refl

pub program_is_free : is_simple_and_free program_app ≡ true
program_is_free = refl

-- a text of a value, behind a reference
pub unwrap_text : (o : Option (Bor Text)) (d : Bor Text) → (unwrap_or o d).now ≡ unwrap_or (option_map (λ s. s.now) o) d.now
unwrap_text None d = refl
unwrap_text (Some s) d = refl

digits_pass : (ds : List ℕ) → AllDigits 10 ds → list_all (λ d. nat_lt (digit_value d) 10) ds ≡ true
digits_pass [] h = refl
digits_pass (d ∷ ds) h = rw (lt-ltb (digit_value d) 10 h.0) (digits_pass ds h.1)

digits_from : (ds : List ℕ) → list_all (λ d. nat_lt (digit_value d) 10) ds ≡ true → AllDigits 10 ds
digits_from [] e = tt
digits_from (d ∷ ds) e =
    let parts = both _ _ e in
    (ltb-true _ _ parts.0, digits_from ds parts.1)

abbrev is_number : List ℕ → Bool
is_number ds = nat_lt 0 (length ds) && list_all (λ d. nat_lt (digit_value d) 10) ds && nat_lt (digits_value 10 ds) (2 ^ 64)

-- a text that is read as a number
pub number_read : {E : Type 0} (default : ℕ) (text : Text) (r : Result ℕ E) → ParsesUnsigned 64 10 text r → result_unwrap_or r default ≡ number_or default text
number_read default text (Ok n) h =
    let ds = without_leading_plus text in
    rw (lt-ltb 0 (length ds) h.0.0.0, digits_pass ds h.0.0.1, lt-ltb (digits_value 10 ds) (2 ^ 64) h.0.1) h.1
number_read default text (Err e) h = go (is_number (without_leading_plus text)) refl
  where
    go : (b : Bool) → is_number (without_leading_plus text) ≡ b → default ≡ number_or default text
    go false t = rw t refl
    go true t =
        let outer = both _ _ t in
        let inner = both _ _ outer.0 in
        absurd (h ((ltb-true _ _ inner.0, digits_from (without_leading_plus text) inner.1), ltb-true _ _ outer.1))

text_number : {E : Type 0} {gives : List ℕ → Result ℕ E → Type 0} (default : ℕ) (text : Text) (found : Option ℕ) → ReadsOne gives text found
    → ((text : Text) (r : Result ℕ E) → gives text r → ParsesUnsigned 64 10 text r) → unwrap_or found default ≡ number_or default text
text_number {E} {gives} default text (Some n) read parses = number_read {E = E} default text (Ok n) (parses text (Ok n) read)
text_number {E} {gives} default text None read parses = number_read {E = E} default text (Err read.0) (parses text (Err read.0) read.1)

-- the number of an option, as it is read by a parser of numbers
pub option_number : {E : Type 0} {gives : List ℕ → Result ℕ E → Type 0} (default : ℕ) (given : Option Text) (found : Option ℕ) → (given ≡ None → found ≡ None)
    → ((text : Text) → given ≡ Some text → ReadsOne gives text found) → ((text : Text) (r : Result ℕ E) → gives text r → ParsesUnsigned 64 10 text r)
    → unwrap_or found default ≡ option_map_or (number_or default) given default
option_number {E} {gives} default None found none some parses = ap (λ o. unwrap_or o default) (none refl)
option_number {E} {gives} default (Some text) found none some parses = text_number {E = E} {gives = gives} default text found (some text refl) parses

some_read : (E : Type 0) (text : Text) (n : ℕ) → ParsesUnsigned {E = E} 64 10 text (Ok n) → Some n ≡ number_of text
some_read E text n h =
    let ds = without_leading_plus text in
    rw (lt-ltb 0 (length ds) h.0.0.0, digits_pass ds h.0.0.1, lt-ltb (digits_value 10 ds) (2 ^ 64) h.0.1) (ap Some h.1)

none_read : (E : Type 0) (text : Text) (e : E) → ParsesUnsigned {E = E} 64 10 text (Err e) → None ≡ number_of text
none_read E text e h = go (is_number (without_leading_plus text)) refl
  where
    go : (b : Bool) → is_number (without_leading_plus text) ≡ b → None ≡ number_of text
    go false t = rw t refl
    go true t =
        let outer = both _ _ t in
        let inner = both _ _ outer.0 in
        absurd (h ((ltb-true _ _ inner.0, digits_from (without_leading_plus text) inner.1), ltb-true _ _ outer.1))

-- the number of a word
pub parsed_number : {E : Type 0} (text : Text) (r : Result ℕ E) → ParsesUnsigned 64 10 text r → result_ok r ≡ number_of text
parsed_number {E} text (Ok n) h = some_read E text n h
parsed_number {E} text (Err e) h = none_read E text e h

text_found : {E : Type 0} {gives : List ℕ → Result ℕ E → Type 0} (text : Text) (found : Option ℕ) → ReadsOne gives text found
    → ((text : Text) (r : Result ℕ E) → gives text r → ParsesUnsigned 64 10 text r) → found ≡ number_of text
text_found {E} {gives} text (Some n) read parses = some_read E text n (parses text (Ok n) read)
text_found {E} {gives} text None read parses = none_read E text read.0 (parses text (Err read.0) read.1)

-- the number of an option that has none where it is not given
pub number_found : {E : Type 0} {gives : List ℕ → Result ℕ E → Type 0} (given : Option Text) (found : Option ℕ) → (given ≡ None → found ≡ None)
    → ((text : Text) → given ≡ Some text → ReadsOne gives text found) → ((text : Text) (r : Result ℕ E) → gives text r → ParsesUnsigned 64 10 text r)
    → found ≡ option_and_then number_of given
number_found {E} {gives} None found none some parses = none refl
number_found {E} {gives} (Some text) found none some parses = text_found {E = E} {gives = gives} text found (some text refl) parses

abbrev is_true : Text → Bool
is_true text = bytes_eq text (codes "true")

-- a flag that is read as one of its texts, or not read
flag_read : {E : Type 0} {gives : List ℕ → Result Bool E → Type 0} (text : Text) (found : Option Bool) → ReadsOne gives text found
    → ((text : Text) (r : Result Bool E) → gives text r → ParsesBool text r) → unwrap_or found false ≡ is_true text
flag_read {E} {gives} text (Some true) read parses = sym ((bytes_eq-Decides text (codes "true")).1 (parses text (Ok true) read))
flag_read {E} {gives} text (Some false) read parses = rw (parses text (Ok false) read) refl
flag_read {E} {gives} text None read parses =
    sym (false_from_ne_true (is_true text) (λ is. (parses text (Err read.0) read.1).0 ((bytes_eq-Decides text (codes "true")).0 is)))

-- an option with no value, as it is read
pub flag_given : {E : Type 0} {gives : List ℕ → Result Bool E → Type 0} (given : Option Text) (found : Option Bool) → (given ≡ None → found ≡ None)
    → ((text : Text) → given ≡ Some text → ReadsOne gives text found) → ((text : Text) (r : Result Bool E) → gives text r → ParsesBool text r)
    → unwrap_or found false ≡ option_map_or is_true given false
flag_given {E} {gives} None found none some parses = ap (λ o. unwrap_or o false) (none refl)
flag_given {E} {gives} (Some text) found none some parses = flag_read {E = E} {gives = gives} text found (some text refl) parses
