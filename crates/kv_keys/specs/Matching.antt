-- Which keys a filter matches.
use Rattle.std.specs.Prelude.{ℕ, Bool, true, false, ◌==◌, ◌&&◌, ◌||◌, List, [], ◌∷◌}
use Rattle.std.specs.Str.{bytes_eq}
use Rattle.std.specs.List.{list_any, slice_split}

-- the texts between the dots
abbrev pub tokens : List ℕ → List (List ℕ)
tokens text = slice_split (λ c. c == 46) text

-- `*` stands for any one token
abbrev pub is_star : List ℕ → Bool
is_star token = bytes_eq token (42 ∷ [])

-- `>` as the last token stands for one or more tokens
abbrev pub is_rest : List (List ℕ) → Bool
is_rest (token ∷ []) = bytes_eq token (62 ∷ [])
is_rest tokens = false

-- token by token: a star or the same token, until both end, or until `>` stands for all that is left
abbrev pub tokens_match : List (List ℕ) → List (List ℕ) → Bool
tokens_match [] [] = true
tokens_match [] (word ∷ words) = false
tokens_match (token ∷ more) [] = false
tokens_match (token ∷ more) (word ∷ words) = is_rest (token ∷ more) ||
    ((is_star token || bytes_eq token word) && tokens_match more words)

-- whether a filter matches a key
unfoldable pub matches : List ℕ → List ℕ → Bool
matches filter key = tokens_match (tokens filter) (tokens key)

-- a list of filters matches where one of them does
abbrev pub any_matches : List (List ℕ) → List ℕ → Bool
any_matches filters key = list_any (λ filter. matches filter key) filters
