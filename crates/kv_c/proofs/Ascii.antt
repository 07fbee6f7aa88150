-- Names, keys and filters are ASCII, and so bytes that are no UTF-8 are none of them.
use Rattle.std.proofs.Common.{◌≡◌, ℕ, ◌<◌, Bool, true, false, ◌&&◌, List, [], ◌∷◌, refl, arith}
use Rattle.std.specs.Prelude.{nat_lt}
use Rattle.std.specs.List.{list_all}
use Rattle.std.specs.Str.{IsUtf8}
use Rattle.std.proofs.lemmas.Bool.{and_parts, and_from}
use Rattle.std.proofs.lemmas.Bool.Decides.{nat_tests}
use Rattle.std.proofs.lemmas.List.Elements.{All-weaker}
use Rattle.std.proofs.lemmas.List.Sums.{AllPass-from_list_all}
use Rattle.std.proofs.lemmas.Str.{IsUtf8-from_ascii}
use Rattle.std.proofs.lemmas.Str.Ascii.{IsAscii-from_all}
use Rattle.kv_keys.specs.Matching.{tokens}
use Rattle.kv_keys.specs.Grammar.{has_one_to, parts, is_present, is_name_character, is_name, is_key_character, is_key, is_filter, are_filters}
use Rattle.kv_keys.proofs.Parts.{all_from_parts, all_of_filter, all_weaker}

abbrev is_low : ℕ → Bool
is_low c = nat_lt c 128

low : (c : ℕ) → is_low c ≡ true → c < 128
low c h = grind (arith, nat_tests)

text_from_low : (bs : List ℕ) → list_all is_low bs ≡ true → IsUtf8 bs
text_from_low bs h = IsUtf8-from_ascii bs (IsAscii-from_all bs (All-weaker (λ c. is_low c ≡ true) (λ c. c < 128) low bs (AllPass-from_list_all is_low bs h)))

name_low : (c : ℕ) → is_name_character c ≡ true → is_low c ≡ true
name_low c h = grind (arith, nat_tests)

key_low : (c : ℕ) → is_key_character c ≡ true → is_low c ≡ true
key_low c h = grind (arith, nat_tests)

name_text : (bs : List ℕ) → is_name bs ≡ true → IsUtf8 bs
unfolding is_name
name_text bs h = text_from_low bs (all_weaker is_name_character is_low name_low bs (and_parts (has_one_to 64 bs) (list_all is_name_character bs) h).1)

key_text : (bs : List ℕ) → is_key bs ≡ true → IsUtf8 bs
unfolding is_key
key_text bs h =
    let more = (and_parts (has_one_to 255 bs) (list_all is_key_character bs && list_all is_present (tokens bs)) h).1 in
    text_from_low bs (all_weaker is_key_character is_low key_low bs (and_parts (list_all is_key_character bs) (list_all is_present (tokens bs)) more).0)

filter_low : (bs : List ℕ) → is_filter bs ≡ true → list_all is_low bs ≡ true
filter_low bs h = all_of_filter is_low key_low refl refl refl bs h

each_low : (ts : List (List ℕ)) → list_all is_filter ts ≡ true → list_all (list_all is_low) ts ≡ true
each_low [] h = refl
each_low (t ∷ ts) h =
    let both = and_parts (is_filter t) (list_all is_filter ts) h in
    and_from (list_all is_low t) (list_all (list_all is_low) ts) (filter_low t both.0) (each_low ts both.1)

filters_text : (bs : List ℕ) → are_filters (parts bs) ≡ true → IsUtf8 bs
unfolding are_filters
filters_text bs h = text_from_low bs (all_from_parts is_low 44 refl bs (each_low (parts bs) (and_parts (has_one_to 16 (parts bs)) (list_all is_filter (parts bs)) h).1))

unless_so : (b : Bool) → ((b ≡ true) → ⊥) → b ≡ false
unless_so true never = absurd (never refl)
unless_so false never = refl

pub no_name : (bs : List ℕ) → ¬ (IsUtf8 bs) → is_name bs ≡ false
no_name bs none = unless_so (is_name bs) (λ is. none (name_text bs is))

pub no_key : (bs : List ℕ) → ¬ (IsUtf8 bs) → is_key bs ≡ false
no_key bs none = unless_so (is_key bs) (λ is. none (key_text bs is))

pub no_filters : (bs : List ℕ) → ¬ (IsUtf8 bs) → are_filters (parts bs) ≡ false
no_filters bs none = unless_so (are_filters (parts bs)) (λ is. none (filters_text bs is))
