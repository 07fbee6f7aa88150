-- Words of lines: keys, base64 and digits have neither a space nor a control, and are ASCII.
use Rattle.std.proofs.Common.{◌≡◌, ℕ, ◌^◌, ◌<◌, ◌==◌, Bool, true, false, ◌&&◌, List, [], ◌∷◌, ◌++◌, refl, ◌∙◌, arith}
use Rattle.std.specs.Prelude.{nat_le, nat_lt, decimal}
use Rattle.std.specs.List.{All, list_all}
use Rattle.std.specs.Str.{all_ascii_digits, is_utf8}
use Rattle.std.proofs.lemmas.Bool.{and_from, and_parts}
use Rattle.std.proofs.lemmas.Bool.Decides.{nat_tests}
use Rattle.std.proofs.lemmas.Fmt.{digits_decimal}
use Rattle.std.proofs.lemmas.List.Elements.{All-weaker}
use Rattle.std.proofs.lemmas.List.Folds.{list_all-append}
use Rattle.std.proofs.lemmas.List.Sums.{AllPass-from_list_all}
use Rattle.std.proofs.lemmas.Str.{IsUtf8-from_ascii, is_utf8-from_IsUtf8}
use Rattle.std.proofs.lemmas.Str.Ascii.{IsAscii-from_all}
use Rattle.std.proofs.lemmas.Str.Parse.{numerals_by_value, tells_all_ascii_digits}
use Rattle.base64.specs.Engines.{standard}
use Rattle.base64.specs.GeneralPurpose.{IsBytes, encode_of}
use Rattle.kv_keys.specs.Grammar.{is_key, is_key_character}
use Rattle.kv_keys.proofs.Keys.{key_characters}
use Rattle.kv_script.proofs.Base64Symbols.{base64_passes}

-- neither a space nor a control, and ASCII
abbrev pub is_word_byte : ℕ → Bool
is_word_byte byte = nat_le 33 byte && nat_lt byte 128

abbrev pub IsWord : List ℕ → Type 0
IsWord text = list_all is_word_byte text ≡ true

-- or a space
abbrev pub is_line_byte : ℕ → Bool
is_line_byte byte = nat_le 32 byte && nat_lt byte 128

abbrev pub IsLine : List ℕ → Type 0
IsLine text = list_all is_line_byte text ≡ true

weaker : (p q : ℕ → Bool) → ((c : ℕ) → p c ≡ true → q c ≡ true) → (bs : List ℕ) → list_all p bs ≡ true → list_all q bs ≡ true
weaker p q each [] h = refl
weaker p q each (c ∷ cs) h =
    let both = and_parts (p c) (list_all p cs) h in
    and_from (q c) (list_all q cs) (each c both.0) (weaker p q each cs both.1)

word_in_line : (c : ℕ) → is_word_byte c ≡ true → is_line_byte c ≡ true
word_in_line c h = grind (arith, nat_tests)

pub line_of_word : (text : List ℕ) → IsWord text → IsLine text
line_of_word text h = weaker is_word_byte is_line_byte word_in_line text h

pub line_append : (xs ys : List ℕ) → IsLine xs → IsLine ys → IsLine (xs ++ ys)
line_append xs ys h k = list_all-append is_line_byte xs ys ∙ and_from _ _ h k

-- ---- what is not among them

no_space_byte : (c : ℕ) → is_word_byte c ≡ true → (c == 32) ≡ false
no_space_byte c h = grind (arith, nat_tests)

pub no_space : (text : List ℕ) → IsWord text → All (λ c. (c == 32) ≡ false) text
no_space text h = All-weaker (λ c. is_word_byte c ≡ true) (λ c. (c == 32) ≡ false) no_space_byte text (AllPass-from_list_all is_word_byte text h)

no_feed_byte : (c : ℕ) → is_line_byte c ≡ true → (c == 10) ≡ false
no_feed_byte c h = grind (arith, nat_tests)

pub no_feed : (text : List ℕ) → IsLine text → All (λ c. (c == 10) ≡ false) text
no_feed text h = All-weaker (λ c. is_line_byte c ≡ true) (λ c. (c == 10) ≡ false) no_feed_byte text (AllPass-from_list_all is_line_byte text h)

low_byte : (c : ℕ) → is_line_byte c ≡ true → c < 128
low_byte c h = grind (arith, nat_tests)

pub line_is_text : (text : List ℕ) → IsLine text → is_utf8 text ≡ true
line_is_text text h =
    is_utf8-from_IsUtf8 text (IsUtf8-from_ascii text (IsAscii-from_all text (All-weaker (λ c. is_line_byte c ≡ true) (λ c. c < 128) low_byte text (AllPass-from_list_all is_line_byte text h))))

-- ---- keys

key_byte : (c : ℕ) → is_key_character c ≡ true → is_word_byte c ≡ true
key_byte c h = grind (arith, nat_tests)

pub key_word : (key : List ℕ) → is_key key ≡ true → IsWord key
key_word key h = weaker is_key_character is_word_byte key_byte key (key_characters key h)

-- ---- base64

pub base64_word : (bytes : List ℕ) → IsBytes bytes → IsWord (encode_of standard bytes)
base64_word bytes h = base64_passes is_word_byte refl refl bytes h

-- ---- digits

digit_byte : (c : ℕ) → nat_le 48 c && nat_le c 57 ≡ true → is_word_byte c ≡ true
digit_byte c h = grind (arith, nat_tests)

digits_word : (ds : List ℕ) → all_ascii_digits ds ≡ true → IsWord ds
digits_word [] h = refl
digits_word (c ∷ cs) h =
    let both = and_parts (nat_le 48 c && nat_le c 57) (all_ascii_digits cs) h in
    and_from (is_word_byte c) (list_all is_word_byte cs) (digit_byte c both.0) (digits_word cs both.1)

pub decimal_digits : (n : ℕ) → n < 2 ^ 64 → all_ascii_digits (decimal n) ≡ true
decimal_digits n h = digits_decimal (numerals_by_value (λ word. all_ascii_digits word ≡ true) tells_all_ascii_digits) n h

pub decimal_word : (n : ℕ) → n < 2 ^ 64 → IsWord (decimal n)
decimal_word n h = digits_word (decimal n) (decimal_digits n h)
