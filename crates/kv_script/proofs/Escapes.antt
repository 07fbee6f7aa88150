-- Keys, names and base64 have nothing that JSON escapes.
use Rattle.std.proofs.Common.{◌≡◌, ℕ, ◌==◌, ◌&&◌, nat_le, not, true, List, [], ◌∷◌, refl, ap, arith}
use Rattle.std.specs.List.{list_all}
use Rattle.std.proofs.lemmas.Bool.{and_parts, and_from, eqb-false, leb-true, not-true}
use Rattle.std.proofs.lemmas.Bool.Decides.{nat_tests}
use Rattle.json.specs.Print.{escape, quoted}
use Rattle.json.proofs.Printed.Strings.{escape_byte_plain}
use Rattle.base64.specs.Engines.{standard}
use Rattle.base64.specs.GeneralPurpose.{IsBytes, encode_of}
use Rattle.kv_keys.specs.Grammar.{has_one_to, is_key_character, is_key, is_name_character, is_name}
use Rattle.kv_keys.proofs.Keys.{key_characters}
use Rattle.kv_script.specs.Line.{in_quotes}
use Rattle.kv_script.specs.Plain.{IsPlain, is_plain_byte}
use Rattle.kv_script.proofs.Base64Symbols.{base64_passes}

escape_plain : (bytes : List ℕ) → IsPlain bytes → escape bytes ≡ bytes
escape_plain [] plain = refl
escape_plain (byte ∷ bytes) plain =
    let parts = and_parts (is_plain_byte byte) (list_all is_plain_byte bytes) plain in
    let byte_parts = and_parts (nat_le 32 byte) (not (byte == 34) && not (byte == 92)) parts.0 in
    let marks = and_parts (not (byte == 34)) (not (byte == 92)) byte_parts.1 in
    rw (escape_byte_plain byte (eqb-false byte 34 (not-true _ marks.0)) (eqb-false byte 92 (not-true _ marks.1)) (leb-true 32 byte byte_parts.0), escape_plain bytes parts.1)

pub quoted_plain : (bytes : List ℕ) → IsPlain bytes → quoted bytes ≡ in_quotes bytes
quoted_plain bytes plain = ap in_quotes (escape_plain bytes plain)

key_character_plain : (c : ℕ) → is_key_character c ≡ true → is_plain_byte c ≡ true
key_character_plain c h = grind (arith, nat_tests)

key_characters_plain : (cs : List ℕ) → list_all is_key_character cs ≡ true → IsPlain cs
key_characters_plain [] h = refl
key_characters_plain (c ∷ cs) h =
    let both = and_parts (is_key_character c) (list_all is_key_character cs) h in
    and_from (is_plain_byte c) (list_all is_plain_byte cs) (key_character_plain c both.0) (key_characters_plain cs both.1)

pub quoted_key : (key : List ℕ) → is_key key ≡ true → quoted key ≡ in_quotes key
quoted_key key h = quoted_plain key (key_characters_plain key (key_characters key h))

name_character_plain : (c : ℕ) → is_name_character c ≡ true → is_plain_byte c ≡ true
name_character_plain c h = grind (arith, nat_tests)

name_characters_plain : (cs : List ℕ) → list_all is_name_character cs ≡ true → IsPlain cs
name_characters_plain [] h = refl
name_characters_plain (c ∷ cs) h =
    let both = and_parts (is_name_character c) (list_all is_name_character cs) h in
    and_from (is_plain_byte c) (list_all is_plain_byte cs) (name_character_plain c both.0) (name_characters_plain cs both.1)

pub quoted_name : (name : List ℕ) → is_name name ≡ true → quoted name ≡ in_quotes name
unfolding is_name
quoted_name name h = quoted_plain name (name_characters_plain name (and_parts (has_one_to 64 name) (list_all is_name_character name) h).1)

pub quoted_value : (value : List ℕ) → IsBytes value → quoted (encode_of standard value) ≡ in_quotes (encode_of standard value)
quoted_value value bytes = quoted_plain (encode_of standard value) (base64_passes is_plain_byte refl refl value bytes)
