-- A filter that is a key matches that key alone.
use Rattle.std.proofs.Common.{◌≡◌, ℕ, Bool, true, false, cond, ◌&&◌, eqb, List, [], ◌∷◌, refl, sym, ap, ◌∙◌}
use Rattle.std.specs.Bool.{Decides}
use Rattle.std.specs.List.{list_all, onto_first, join_with_byte}
use Rattle.std.specs.Str.{bytes_eq}
use Rattle.std.proofs.lemmas.Bool.{and_parts, and_from}
use Rattle.std.proofs.lemmas.Bool.Decides.{same_from_decides, Decides-like}
use Rattle.std.proofs.lemmas.List.Splits.{join_with_byte-slice_split}
use Rattle.std.proofs.lemmas.Slice.Eq.{bytes_eq-Decides}
use Rattle.kv_keys.specs.Grammar.{has_one_to, is_present, is_key_character, is_key}
use Rattle.kv_keys.specs.Matching.{tokens, is_star, is_rest, tokens_match, matches}

-- ---- the tokens of a key have characters of keys alone

onto_first_all : (p : ℕ → Bool) (c : ℕ) (ts : List (List ℕ)) → p c ≡ true → list_all (list_all p) ts ≡ true → list_all (list_all p) (onto_first c ts) ≡ true
onto_first_all p c [] one all = and_from (p c && true) true (and_from (p c) true one refl) refl
onto_first_all p c (t ∷ ts) one all =
    let both = and_parts (list_all p t) (list_all (list_all p) ts) all in
    and_from (p c && list_all p t) (list_all (list_all p) ts) (and_from (p c) (list_all p t) one both.0) both.1

tokens_all : (p : ℕ → Bool) (text : List ℕ) → list_all p text ≡ true → list_all (list_all p) (tokens text) ≡ true
tokens_all p [] h = refl
tokens_all p (c ∷ cs) h =
    let both = and_parts (p c) (list_all p cs) h in
    by_dot (eqb c 46) both.0 (tokens_all p cs both.1)
  where
    by_dot : (b : Bool) → p c ≡ true → list_all (list_all p) (tokens cs) ≡ true → list_all (list_all p) (cond b ([] ∷ tokens cs) (onto_first c (tokens cs))) ≡ true
    by_dot true one all = all
    by_dot false one all = onto_first_all p c (tokens cs) one all

-- ---- such a token is no wildcard

is_other : (token wild : List ℕ) → list_all is_key_character token ≡ true → list_all is_key_character wild ≡ false → bytes_eq token wild ≡ false
is_other token wild plain special = by_test (bytes_eq token wild) refl
  where
    by_test : (b : Bool) → bytes_eq token wild ≡ b → b ≡ false
    by_test true t =
        let same : token ≡ wild = (bytes_eq-Decides token wild).0 t in
        sym plain ∙ ap (list_all is_key_character) same ∙ special
    by_test false t = refl

no_star : (token : List ℕ) → list_all is_key_character token ≡ true → is_star token ≡ false
no_star token plain = is_other token (42 ∷ []) plain refl

no_rest : (token : List ℕ) (more : List (List ℕ)) → list_all is_key_character token ≡ true → is_rest (token ∷ more) ≡ false
no_rest token [] plain = is_other token (62 ∷ []) plain refl
no_rest token (next ∷ more) plain = refl

-- ---- so it matches by equality

token_by_token : (ts ws : List (List ℕ)) → list_all (list_all is_key_character) ts ≡ true → Decides (tokens_match ts ws) (ts ≡ ws)
token_by_token [] [] h = (λ _. refl, λ _. refl)
token_by_token [] (w ∷ ws) h = (λ t. cc, λ e. cc)
token_by_token (t ∷ ts) [] h = (λ t. cc, λ e. cc)
token_by_token (t ∷ ts) (w ∷ ws) h =
    let both = and_parts (list_all is_key_character t) (list_all (list_all is_key_character) ts) h in
    first_and_rest both.0 (token_by_token ts ws both.1)
  where
    first_and_rest : list_all is_key_character t ≡ true → Decides (tokens_match ts ws) (ts ≡ ws) → Decides (tokens_match (t ∷ ts) (w ∷ ws)) (t ∷ ts ≡ w ∷ ws)
    first_and_rest plain others = (there, back)
      where
        alike : tokens_match (t ∷ ts) (w ∷ ws) ≡ (bytes_eq t w && tokens_match ts ws)
        alike = rw (no_rest t ts plain, no_star t plain) refl

        there : tokens_match (t ∷ ts) (w ∷ ws) ≡ true → t ∷ ts ≡ w ∷ ws
        there m =
            let inner = and_parts (bytes_eq t w) (tokens_match ts ws) (sym alike ∙ m) in
            let one : t ≡ w = (bytes_eq-Decides t w).0 inner.0 in
            let rest : ts ≡ ws = others.0 inner.1 in
            cc

        back : t ∷ ts ≡ w ∷ ws → tokens_match (t ∷ ts) (w ∷ ws) ≡ true
        back e =
            let one : t ≡ w = cc in
            let rest : ts ≡ ws = cc in
            alike ∙ and_from (bytes_eq t w) (tokens_match ts ws) ((bytes_eq-Decides t w).1 one) (others.1 rest)

same_tokens : (a b : List ℕ) → tokens a ≡ tokens b → a ≡ b
same_tokens a b e = sym (join_with_byte-slice_split 46 a) ∙ ap (join_with_byte 46) e ∙ join_with_byte-slice_split 46 b

pub literal_matches : (filter key : List ℕ) → is_key filter ≡ true → matches filter key ≡ bytes_eq filter key
unfolding is_key matches
literal_matches filter key h =
    let plain = (and_parts (list_all is_key_character filter) (list_all is_present (tokens filter)) (and_parts (has_one_to 255 filter) (list_all is_key_character filter && list_all is_present (tokens filter)) h).1).0 in
    same_from_decides (tokens_match (tokens filter) (tokens key)) (bytes_eq filter key)
    (Decides-like (tokens_match (tokens filter) (tokens key)) (same_tokens filter key) (ap tokens) (token_by_token (tokens filter) (tokens key) (tokens_all is_key_character filter plain)))
    (bytes_eq-Decides filter key)
