-- In text, the value that a line reads is the text that an answer shows.
use Rattle.std.proofs.Common.{◌≡◌, ◌<◌, ◌+◌, ◌==◌, ◌&&◌, ℕ, true, false, List, [], ◌∷◌, ◌++◌, length, drop, get_or, Some, Ok, codes, refl, subst, lit<, arith}
use Rattle.std.specs.Prelude.{nat_lt, nat_le}
use Rattle.std.specs.List.{All, list_all}
use Rattle.std.specs.Str.{IsUtf8, is_utf8}
use Rattle.std.proofs.Math.Seq.{drop-append-add, get_or-append_seam}
use Rattle.std.proofs.lemmas.Bool.{and_parts}
use Rattle.std.proofs.lemmas.Bool.Decides.{nat_tests}
use Rattle.std.proofs.lemmas.List.{length-append}
use Rattle.std.proofs.lemmas.List.Elements.{All-cons, All-from_get_or}
use Rattle.std.proofs.lemmas.List.Splits.{slice_split_at}
use Rattle.std.proofs.lemmas.Str.{IsCharBoundary-after_ascii, IsUtf8-drop, IsUtf8-from_is_utf8, is_utf8-from_IsUtf8}
use Rattle.json.specs.Print.{quoted}
use Rattle.kv_keys.specs.Grammar.{has_one_to, is_key, is_key_character, is_present}
use Rattle.kv_keys.specs.Matching.{tokens}
use Rattle.kv_keys.proofs.Keys.{key_characters}
use Rattle.kv_model.specs.Requests.{put}
use Rattle.kv_script.specs.Commands.{Write, is_within_limits, line_command, text_command}
use Rattle.kv_script.specs.declared.form.Form.TheVariants.{Text}
use Rattle.kv_script.specs.Text.{one, value_members}
use Rattle.kv_script.specs.Words.{words_of}
use Rattle.kv_script.proofs.Spaced.{put_text}

key_byte : (c : ℕ) → is_key_character c ≡ true → (c == 32) ≡ false
key_byte c h = grind (arith, nat_tests)

no_space : (bytes : List ℕ) → list_all is_key_character bytes ≡ true → All (λ c. (c == 32) ≡ false) bytes
no_space [] h = All-from_get_or (λ c. (c == 32) ≡ false) [] 0 (λ i h. absurd (omega (arith, h)))
no_space (c ∷ cs) h =
    let both = and_parts (is_key_character c) (list_all is_key_character cs) h in
    All-cons (λ c. (c == 32) ≡ false) c cs (key_byte c both.0) (no_space cs both.1)

key_present : (key : List ℕ) → is_key key ≡ true → is_present key ≡ true
unfolding is_key
key_present key h =
    let fits = (and_parts (has_one_to 255 key) (list_all is_key_character key && list_all is_present (tokens key)) h).0 in
    (and_parts (nat_lt 0 (length key)) (nat_le (length key) 255) fits).0

pub put_line : (key value : List ℕ) → is_key key ≡ true → is_within_limits (codes "put " ++ (key ++ 32 ∷ value)) ≡ true
    → line_command Text (codes "put " ++ (key ++ 32 ∷ value)) ≡ Ok (Write (put key value))
unfolding line_command text_command
put_line key value is fits =
    let words : words_of (key ++ 32 ∷ value) ≡ key ∷ words_of value =
    slice_split_at (λ c. c == 32) key 32 value (no_space key (key_characters key is)) refl in
    rw (fits, words, put_text put key value, key_present key is, is) refl

-- what stands behind a space in a text is a text
behind_space : (front value : List ℕ) → IsUtf8 (front ++ 32 ∷ value) → IsUtf8 value
behind_space front value h =
    let within : length front < length (front ++ 32 ∷ value) = rw (length-append front (32 ∷ value)) (omega arith) in
    let small : get_or (front ++ 32 ∷ value) (length front) 0 < 128 = rw (get_or-append_seam front 32 value 0) (lit< tt) in
    let rest : IsUtf8 (drop (length front + 1) (front ++ 32 ∷ value)) = IsUtf8-drop _ _ h (IsCharBoundary-after_ascii _ (length front) h within small) in
    subst IsUtf8 (drop-append-add front (32 ∷ value) 1) rest

pub shown_value : (key value : List ℕ) → is_within_limits (codes "put " ++ (key ++ 32 ∷ value)) ≡ true
    → value_members Text (Some value) [] ≡ one (codes "value") (quoted value)
shown_value key value fits =
    let whole : is_utf8 (codes "put " ++ (key ++ 32 ∷ value)) ≡ true = (and_parts (is_utf8 (codes "put " ++ (key ++ 32 ∷ value))) _ fits).0 in
    let is_text : is_utf8 value ≡ true = is_utf8-from_IsUtf8 value (behind_space (codes "put " ++ key) value (IsUtf8-from_is_utf8 _ whole)) in
    rw is_text refl
