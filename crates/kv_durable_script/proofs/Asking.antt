-- What the lines of a dump ask for.
use Rattle.std.proofs.Common.{◌≡◌, ℕ, ◌+◌, zero, suc, ◌^◌, ◌<◌, ◌≤◌, ◌==◌, Bool, true, cond, ◌&&◌, List, [], ◌∷◌, ◌++◌, length, length-append, replicate, Some, None, Ok, codes, refl, ap, ◌∙◌, arith}
use Rattle.std.specs.Prelude.{nat_le, nat_lt, decimal}
use Rattle.std.specs.List.{list_all}
use Rattle.std.specs.Str.{all_ascii_digits, is_utf8}
use Rattle.std.specs.Str.Parse.{digits_value}
use Rattle.std.proofs.lemmas.Bool.{and_from, and_parts, le-leb, lt-ltb, ltb-true}
use Rattle.std.proofs.lemmas.Fmt.{decimal_nonempty, digits_value-decimal, length-decimal-le}
use Rattle.std.proofs.lemmas.List.{length-replicate}
use Rattle.std.proofs.lemmas.List.Splits.{slice_split_at, slice_split_none}
use Rattle.std.proofs.lemmas.Str.Parse.{numerals_by_value, tells_all_ascii_digits}
use Rattle.base64.specs.Engines.{standard}
use Rattle.base64.specs.GeneralPurpose.{IsBytes, encode_of}
use Rattle.base64.specs.Rfc4648.{encode_symbols, padding_len}
use Rattle.base64.proofs.RoundTrip.{length-encode_symbols}
use Rattle.kv_keys.specs.Grammar.{has_one_to, is_key, is_key_character, is_present}
use Rattle.kv_keys.specs.Matching.{tokens}
use Rattle.kv_journal.proofs.Ascii.{key_fits}
use Rattle.kv_model.specs.Requests.{delete, purge, put}
use Rattle.kv_script.specs.Commands.{Write, Seal, Compact, Batch, is_within_limits, line_command, line_write, named_command}
use Rattle.kv_script.specs.Words.{number_of, value_of, words_of}
use Rattle.kv_script.specs.declared.form.Form.TheVariants.{Base64}
use Rattle.kv_script.proofs.Base64Words.{value_word as values_word}
use Rattle.kv_script.proofs.Digits.{number_of-digits}
use Rattle.kv_durable_script.specs.Dumps.{value_word, write_line}
use Rattle.kv_model.specs.declared.write.Op.TheVariants.{Put, Delete, Purge}
use Rattle.kv_durable_script.proofs.Words.{IsLine, IsWord, base64_word, decimal_digits, decimal_word, is_word_byte, key_word, line_append, line_is_text, line_of_word, no_space}

-- ---- words

key_present : (key : List ℕ) → is_key key ≡ true → is_present key ≡ true
unfolding is_key
key_present key h =
    let fits = (and_parts (has_one_to 255 key) (list_all is_key_character key && list_all is_present (tokens key)) h).0 in
    (and_parts (nat_lt 0 (length key)) (nat_le (length key) 255) fits).0

low_byte : (c : ℕ) → is_word_byte c ≡ true → c < 256
low_byte c h = let both = and_parts (nat_le 33 c) (nat_lt c 128) h in omega (arith, ltb-true c 128 both.1)

bytes_of : (text : List ℕ) → IsWord text → IsBytes text
bytes_of [] w i = omega arith
bytes_of (c ∷ cs) w zero = low_byte c (and_parts (is_word_byte c) (list_all is_word_byte cs) w).0
bytes_of (c ∷ cs) w (suc i) = bytes_of cs (and_parts (is_word_byte c) (list_all is_word_byte cs) w).1 i

pub record IsValueWord (value word : List ℕ) : Type 0 where
  pub is_word : IsWord word
  pub some : 0 < length word
  pub short : length word ≤ 1398104
  pub means : value_of word ≡ Some value

pub value_words : (value : List ℕ) → IsBytes value → length value ≤ 1048576 → IsValueWord value (value_word value)
value_words [] h fits = record { is_word = refl; some = omega arith; short = omega arith; means = refl }
value_words (b ∷ bs) h fits =
    let v : List ℕ = b ∷ bs in
    let word = base64_word (b ∷ bs) h in
    let size : length (encode_of standard (b ∷ bs)) ≡ length (encode_symbols standard.encode_table (b ∷ bs)) + length (replicate (padding_len (length (b ∷ bs))) 61) =
    length-append (encode_symbols standard.encode_table (b ∷ bs)) (replicate (padding_len (length (b ∷ bs))) 61) in
    let pad : length (replicate {A = ℕ} (padding_len (length (b ∷ bs))) 61) ≡ padding_len (length (b ∷ bs)) = length-replicate {A = ℕ} (padding_len (length (b ∷ bs))) 61 in
    let front = length-encode_symbols standard.encode_table (b ∷ bs) in
    record {
      is_word = word;
      some = omega (arith, size, pad, front);
      short = omega (arith, size, pad, front, fits);
      means = (values_word (encode_of standard (b ∷ bs)) (b ∷ bs) (bytes_of (encode_of standard (b ∷ bs)) word) h (omega arith)).1 refl;
    }

-- ---- lines

within : (line : List ℕ) → IsLine line → length line ≤ 1400000 → is_within_limits line ≡ true
within line is short = and_from (is_utf8 line) (nat_le (length line) 1400000) (line_is_text line is) (le-leb (length line) 1400000 short)

only_word : (word : List ℕ) → IsWord word → words_of word ≡ word ∷ []
only_word word is = slice_split_none (λ c. c == 32) word (no_space word is)

pub put_is_line : (key value : List ℕ) → is_key key ≡ true → IsValueWord value (value_word value) → IsLine (write_line Put key value)
put_is_line key value is word =
    line_append (codes "put ") (key ++ 32 ∷ value_word value) refl
    (line_append key (32 ∷ value_word value) (line_of_word key (key_word key is)) (line_of_word (value_word value) word.is_word))

pub put_asks : (key value : List ℕ) → is_key key ≡ true → IsValueWord value (value_word value) → line_command Base64 (write_line Put key value) ≡ Ok (Write (put key value))
unfolding line_command named_command
put_asks key value is word =
    let w = value_word value in
    let size = length-append key (32 ∷ w) in
    let fits = within (codes "put " ++ (key ++ 32 ∷ w)) (put_is_line key value is word) (omega (arith, size, key_fits key is, word.short)) in
    let first : words_of (key ++ 32 ∷ w) ≡ key ∷ words_of w = slice_split_at (λ c. c == 32) key 32 w (no_space key (key_word key is)) refl in
    rw (fits, first, only_word w word.is_word, key_present key is, lt-ltb 0 (length w) word.some, word.means, is) refl

pub delete_is_line : (key : List ℕ) → is_key key ≡ true → IsLine (write_line Delete key [])
delete_is_line key is = line_append (codes "delete ") key refl (line_of_word key (key_word key is))

pub delete_asks : (key : List ℕ) → is_key key ≡ true → line_command Base64 (write_line Delete key []) ≡ Ok (Write (delete key None))
unfolding line_command named_command
delete_asks key is =
    let fits = within (codes "delete " ++ key) (delete_is_line key is) (omega (arith, key_fits key is)) in
    rw (fits, only_word key (key_word key is), key_present key is, is) refl

pub purge_is_line : (key : List ℕ) → is_key key ≡ true → IsLine (write_line Purge key [])
purge_is_line key is = line_append (codes "purge ") key refl (line_of_word key (key_word key is))

pub purge_asks : (key : List ℕ) → is_key key ≡ true → line_command Base64 (write_line Purge key []) ≡ Ok (Write (purge key None))
unfolding line_command named_command
purge_asks key is =
    let fits = within (codes "purge " ++ key) (purge_is_line key is) (omega (arith, key_fits key is)) in
    rw (fits, only_word key (key_word key is), key_present key is, is) refl

pub seal_asks : line_command Base64 (codes "seal") ≡ Ok Seal
unfolding line_command named_command
seal_asks = rw (within (codes "seal") refl (omega arith)) refl

pub number_is : (n : ℕ) → n < 2 ^ 64 → number_of (decimal n) ≡ Some n
number_is n h =
    let own = numerals_by_value (λ word. all_ascii_digits word ≡ true) tells_all_ascii_digits in
    let value : digits_value 10 (decimal n) ≡ n = digits_value-decimal own n h in
    let digits = number_of-digits (decimal n) (decimal_nonempty n h) (length-decimal-le 20 n (omega arith) (omega (arith, h)) h) (decimal_digits n h) in
    digits ∙ ap (λ (m : ℕ). cond (nat_lt m (2 ^ 64)) (Some m) None) value ∙ ap (λ (b : Bool). cond b (Some n) None) (lt-ltb n (2 ^ 64) h)

pub compact_is_line : (n : ℕ) → n < 2 ^ 64 → IsLine (codes "compact " ++ decimal n)
compact_is_line n h = line_append (codes "compact ") (decimal n) refl (line_of_word (decimal n) (decimal_word n h))

pub compact_asks : (n : ℕ) → n < 2 ^ 64 → line_command Base64 (codes "compact " ++ decimal n) ≡ Ok (Compact n)
unfolding line_command named_command
compact_asks n h =
    let short = length-decimal-le 20 n (omega arith) (omega (arith, h)) h in
    let fits = within (codes "compact " ++ decimal n) (compact_is_line n h) (omega (arith, short)) in
    rw (fits, only_word (decimal n) (decimal_word n h), number_is n h, lt-ltb 0 (length (decimal n)) (decimal_nonempty n h)) refl

pub batch_is_line : (n : ℕ) → n < 2 ^ 64 → IsLine (codes "batch " ++ decimal n)
batch_is_line n h = line_append (codes "batch ") (decimal n) refl (line_of_word (decimal n) (decimal_word n h))

pub batch_asks : (n : ℕ) → n < 2 ^ 64 → line_command Base64 (codes "batch " ++ decimal n) ≡ Ok (Batch n)
unfolding line_command named_command
batch_asks n h =
    let short = length-decimal-le 20 n (omega arith) (omega (arith, h)) h in
    let fits = within (codes "batch " ++ decimal n) (batch_is_line n h) (omega (arith, short)) in
    rw (fits, only_word (decimal n) (decimal_word n h), number_is n h, lt-ltb 0 (length (decimal n)) (decimal_nonempty n h)) refl

-- ---- in a batch

pub put_writes : (key value : List ℕ) → is_key key ≡ true → IsValueWord value (value_word value) → line_write Base64 (write_line Put key value) ≡ Ok (put key value)
unfolding line_write
put_writes key value is word = rw (put_asks key value is word) refl

pub delete_writes : (key : List ℕ) → is_key key ≡ true → line_write Base64 (write_line Delete key []) ≡ Ok (delete key None)
unfolding line_write
delete_writes key is = rw (delete_asks key is) refl

pub purge_writes : (key : List ℕ) → is_key key ≡ true → line_write Base64 (write_line Purge key []) ≡ Ok (purge key None)
unfolding line_write
purge_writes key is = rw (purge_asks key is) refl
