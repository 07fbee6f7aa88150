-- What the bytes of a key are, and when two keys are one.
use Rattle.std.proofs.Common.{◌≡◌, ℕ, true, ◌≤◌, ◌&&◌, nat_lt, nat_le, List, length, refl, ◌∙◌}
use Rattle.std.specs.Cmp.Lexicographic.{slice_cmp, bytes_decides}
use Rattle.std.specs.FinMap.{slice_cmp-IsAntisymmetric, nat_cmp-IsAntisymmetric}
use Rattle.std.specs.List.{list_all}
use Rattle.std.specs.Ordering.{is_eq, nat_cmp}
use Rattle.std.specs.declared.cmp.Ordering.{Ordering}
use Rattle.std.specs.declared.cmp.Ordering.TheVariants.{Less, Equal, Greater}
use Rattle.std.proofs.lemmas.Bool.{and_parts, leb-true}
use Rattle.std.proofs.lemmas.Map.Text.{is_eq-slice_cmp}
use Rattle.kv_keys.specs.Matching.{tokens}
use Rattle.kv_keys.specs.Grammar.{has_one_to, is_present, is_key_character, is_key}

-- each byte of a key is one of the characters of keys
pub key_characters : (key : List ℕ) → is_key key ≡ true → list_all is_key_character key ≡ true
unfolding is_key
key_characters key h =
    (and_parts (list_all is_key_character key) (list_all is_present (tokens key)) (and_parts (has_one_to 255 key) (list_all is_key_character key && list_all is_present (tokens key)) h).1).0

-- a key has at most 255 bytes
pub key_length : (key : List ℕ) → is_key key ≡ true → length key ≤ 255
unfolding is_key
key_length key h =
    let fits = (and_parts (has_one_to 255 key) (list_all is_key_character key && list_all is_present (tokens key)) h).0 in
    leb-true (length key) 255 (and_parts (nat_lt 0 (length key)) (nat_le (length key) 255) fits).1

equal_from_is_eq : (o : Ordering) → is_eq o ≡ true → o ≡ Equal
equal_from_is_eq Less h = cc
equal_from_is_eq Equal h = refl
equal_from_is_eq Greater h = cc

-- the order of keys answers `Equal` at equal bytes, and nowhere else
pub same_from_cmp : (a b : List ℕ) → slice_cmp nat_cmp a b ≡ Equal → a ≡ b
same_from_cmp a b same = slice_cmp-IsAntisymmetric nat_cmp-IsAntisymmetric a b same

pub cmp_of_same : (a b : List ℕ) → a ≡ b → slice_cmp nat_cmp a b ≡ Equal
cmp_of_same a b same = equal_from_is_eq (slice_cmp nat_cmp a b) (is_eq-slice_cmp a b ∙ (bytes_decides a b).1 same)
