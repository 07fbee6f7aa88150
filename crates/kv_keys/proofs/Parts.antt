-- The filters of a list, and the list of one filter.
use Rattle.std.proofs.Common.{◌≡◌, ℕ, ◌<◌, Bool, true, false, not, cond, ◌&&◌, ◌||◌, inl, inr, List, [], ◌∷◌, length, eqb, refl, ap, sym, ◌∙◌, arith}
use Rattle.std.specs.List.{list_all, onto_first, slice_split}
use Rattle.std.specs.Str.{bytes_eq}
use Rattle.std.specs.Cmp.Lexicographic.{same_text}
use Rattle.std.proofs.lemmas.Bool.{and_parts, and_from, or_cases, eqb-true}
use Rattle.std.proofs.lemmas.Bool.Decides.{nat_tests}
use Rattle.std.proofs.lemmas.List.Elements.{All-weaker}
use Rattle.std.proofs.lemmas.List.Sums.{AllPass-from_list_all}
use Rattle.std.proofs.lemmas.List.Splits.{length-slice_split, slice_split_none}
use Rattle.kv_keys.specs.Matching.{tokens, is_star, is_rest}
use Rattle.kv_keys.specs.Grammar.{has_one_to, parts, is_present, is_key_character, is_literal, are_filter_tokens, is_filter, are_filters}

-- a text has at least one part
pub parts_some : (text : List ℕ) → 0 < length (parts text)
parts_some text = omega (arith, length-slice_split (λ c. eqb c 44) text)

onto_first-all : (p : ℕ → Bool) (c : ℕ) (ts : List (List ℕ)) → list_all (list_all p) (onto_first c ts) ≡ true → (p c ≡ true) × (list_all (list_all p) ts ≡ true)
onto_first-all p c [] h = (grind arith, refl)
onto_first-all p c (t ∷ ts) h = grind arith

-- where a text is cut at a character that passes a test, and each character of each part passes it, all of the text do
pub all_from_parts : (p : ℕ → Bool) (mark : ℕ) → p mark ≡ true → (text : List ℕ) → list_all (list_all p) (slice_split (λ c. eqb c mark) text) ≡ true → list_all p text ≡ true
all_from_parts p mark passes [] h = refl
all_from_parts p mark passes (c ∷ cs) h =
    let rest = slice_split (λ b. eqb b mark) cs in
    let P : Bool → Type 0 = λ b. eqb c mark ≡ b → list_all (list_all p) (cond b ([] ∷ rest) (onto_first c rest)) ≡ true → list_all p (c ∷ cs) ≡ true in
    let cases : (b : Bool) → P b = λ b. elim b as P [
      | true ↦ (λ is parts. and_from (p c) (list_all p cs) (ap p (eqb-true c mark is) ∙ passes) (all_from_parts p mark passes cs parts))
      | false ↦ (λ is parts. let both = onto_first-all p c rest parts in and_from (p c) (list_all p cs) both.0 (all_from_parts p mark passes cs both.1))
    ] in
    cases (eqb c mark) refl h

-- a test that is weaker passes too
pub all_weaker : (p q : ℕ → Bool) (weaker : (c : ℕ) → p c ≡ true → q c ≡ true) (text : List ℕ) → list_all p text ≡ true → list_all q text ≡ true
all_weaker p q weaker [] h = refl
all_weaker p q weaker (c ∷ cs) h =
    let both = and_parts (p c) (list_all p cs) h in
    and_from (q c) (list_all q cs) (weaker c both.0) (all_weaker p q weaker cs both.1)

-- a test that the characters of keys pass, and those of the two wildcards
module _ (p : ℕ → Bool) (key : (c : ℕ) → is_key_character c ≡ true → p c ≡ true) (star : p 42 ≡ true) (tail : p 62 ≡ true) where
  all_one : (token : List ℕ) (c : ℕ) → bytes_eq token (c ∷ []) ≡ true → p c ≡ true → list_all p token ≡ true
  all_one token c same passes = ap (list_all p) (same_text token (c ∷ []) (sym same)) ∙ and_from (p c) true passes refl

  all_of_rest : (token : List ℕ) (more : List (List ℕ)) → is_rest (token ∷ more) ≡ true → list_all (list_all p) (token ∷ more) ≡ true
  all_of_rest token [] h = and_from (list_all p token) true (all_one token 62 h tail) refl
  all_of_rest token (next ∷ more) h = cc

  all_of_token : (token : List ℕ) → (is_star token || is_literal token) ≡ true → list_all p token ≡ true
  all_of_token token h =
      elim (or_cases (is_star token) (is_literal token) h) [
        | inl one ↦ all_one token 42 one star
        | inr literal ↦ all_weaker is_key_character p key token (and_parts (is_present token) (list_all is_key_character token) literal).1
      ]

  all_of_tokens : (ts : List (List ℕ)) → are_filter_tokens ts ≡ true → list_all (list_all p) ts ≡ true
  all_of_tokens [] h = refl
  all_of_tokens (token ∷ more) h =
      elim (or_cases (is_rest (token ∷ more)) ((is_star token || is_literal token) && are_filter_tokens more) h) [
        | inl rest ↦ all_of_rest token more rest
        | inr both ↦ (let each = and_parts (is_star token || is_literal token) (are_filter_tokens more) both in
            and_from (list_all p token) (list_all (list_all p) more) (all_of_token token each.0) (all_of_tokens more each.1))
      ]

  -- and a dot: all characters of a filter pass it
  pub all_of_filter : p 46 ≡ true → (text : List ℕ) → is_filter text ≡ true → list_all p text ≡ true
  unfolding is_filter
  all_of_filter dot text h = all_from_parts p 46 dot text (all_of_tokens (tokens text) (and_parts (has_one_to 255 text) (are_filter_tokens (tokens text)) h).1)

-- a character that is no comma
abbrev is_plain : ℕ → Bool
is_plain c = not (eqb c 44)

plain_character : (c : ℕ) → is_key_character c ≡ true → is_plain c ≡ true
plain_character c h = grind (arith, nat_tests)

not_comma : (c : ℕ) → is_plain c ≡ true → eqb c 44 ≡ false
not_comma c h = grind (arith, nat_tests)

-- a filter has no comma, so it is the only part of its text
pub parts_one : (text : List ℕ) → is_filter text ≡ true → parts text ≡ text ∷ []
parts_one text h =
    let plain = all_of_filter is_plain plain_character refl refl refl text h in
    slice_split_none (λ c. eqb c 44) text (All-weaker (λ c. is_plain c ≡ true) (λ c. eqb c 44 ≡ false) not_comma text (AllPass-from_list_all is_plain text plain))

-- one filter is a list of filters
pub are_filters_one : (text : List ℕ) → is_filter text ≡ true → are_filters (text ∷ []) ≡ true
unfolding are_filters
are_filters_one text h = and_from (is_filter text) true h refl
