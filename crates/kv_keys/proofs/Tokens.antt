-- The first token of a text, and that there is one.
use Rattle.std.proofs.Common.{◌≡◌, ℕ, ◌<◌, true, false, cond, List, [], ◌∷◌, length, eqb, refl}
use Rattle.std.specs.List.{onto_first, position_or_len, before_first, after_first}
use Rattle.std.proofs.lemmas.List.Elements.{All-from_get_or}
use Rattle.std.proofs.lemmas.List.Sums.{fails_before_first}
use Rattle.std.proofs.lemmas.List.Splits.{slice_split_first, slice_split_none}
use Rattle.kv_keys.specs.Matching.{tokens, tokens_match, is_rest}

onto_first_more : (c : ℕ) (ts : List (List ℕ)) → (u : List ℕ) × (us : List (List ℕ)) × (onto_first c ts ≡ u ∷ us)
onto_first_more c [] = (c ∷ [], [], refl)
onto_first_more c (t ∷ ts) = (c ∷ t, ts, refl)

-- a text has a first token
pub tokens_more : (text : List ℕ) → (t : List ℕ) × (ts : List (List ℕ)) × (tokens text ≡ t ∷ ts)
tokens_more [] = ([], [], refl)
tokens_more (c ∷ cs) =
    elim (eqb c 46) as (λ b. (t : List ℕ) × (ts : List (List ℕ)) × (cond b ([] ∷ tokens cs) (onto_first c (tokens cs)) ≡ t ∷ ts)) [
      | true ↦ ([], tokens cs, refl)
      | false ↦ onto_first_more c (tokens cs)
    ]

pub is_rest_more : (t text : List ℕ) → is_rest (t ∷ tokens text) ≡ false
is_rest_more t text = let more = tokens_more text in rw more.2 refl

pub no_match_left : (text : List ℕ) → tokens_match [] (tokens text) ≡ false
no_match_left text = let more = tokens_more text in rw more.2 refl

pub no_match_right : (text : List ℕ) → tokens_match (tokens text) [] ≡ false
no_match_right text = let more = tokens_more text in rw more.2 refl

-- a text with no dot is its only token
pub tokens_none : (text : List ℕ) → position_or_len (λ c. eqb c 46) text ≡ length text → tokens text ≡ text ∷ []
tokens_none text none =
    slice_split_none (λ c. eqb c 46) text (All-from_get_or (λ c. eqb c 46 ≡ false) text 0 (λ k h. fails_before_first (λ c. eqb c 46) text k 0 (rw none h)))

-- what stands before the first dot is the first token
pub tokens_first : (text : List ℕ) → position_or_len (λ c. eqb c 46) text < length text
    → tokens text ≡ before_first (λ c. eqb c 46) text ∷ tokens (after_first (λ c. eqb c 46) text)
tokens_first text some = slice_split_first (λ c. eqb c 46) text 0 some
