-- What the names of buckets, keys and filters are made of.
use Rattle.std.specs.Prelude.{ℕ, Bool, true, ◌==◌, nat_lt, nat_le, ◌&&◌, ◌||◌, List, [], ◌∷◌, length}
use Rattle.std.specs.Char.{is_ascii_alphanumeric}
use Rattle.std.specs.List.{list_all, slice_split}
use Rattle.kv_keys.specs.Matching.{tokens, is_star, is_rest}

-- a list has 1 to `most` elements
abbrev pub has_one_to : {X : Type 0} → ℕ → List X → Bool
has_one_to most xs = nat_lt 0 (length xs) && nat_le (length xs) most

-- a text is not empty
abbrev pub is_present : List ℕ → Bool
is_present text = nat_lt 0 (length text)

-- the names of buckets have letters, digits, `_` and `-`
abbrev pub is_name_character : ℕ → Bool
is_name_character c = is_ascii_alphanumeric c || (c == 95 || c == 45)

-- a name has 1 to 64 such characters
unfoldable pub is_name : List ℕ → Bool
is_name text = has_one_to 64 text && list_all is_name_character text

-- keys have letters, digits, `-`, `/`, `_`, `=` and `.`
abbrev pub is_key_character : ℕ → Bool
is_key_character c = is_ascii_alphanumeric c || ((c == 45 || c == 47) || ((c == 95 || c == 61) || c == 46))

-- a key has 1 to 255 such characters, and no token of it is empty
unfoldable pub is_key : List ℕ → Bool
is_key text = has_one_to 255 text && (list_all is_key_character text && list_all is_present (tokens text))

-- a token that stands for itself: one or more characters of keys
abbrev pub is_literal : List ℕ → Bool
is_literal token = is_present token && list_all is_key_character token

-- the tokens of a filter are stars and literals, and the last may be `>`
abbrev pub are_filter_tokens : List (List ℕ) → Bool
are_filter_tokens [] = true
are_filter_tokens (token ∷ more) = is_rest (token ∷ more) ||
    ((is_star token || is_literal token) && are_filter_tokens more)

-- a filter has 1 to 255 bytes
unfoldable pub is_filter : List ℕ → Bool
is_filter text = has_one_to 255 text && are_filter_tokens (tokens text)

-- the texts between the commas
abbrev pub parts : List ℕ → List (List ℕ)
parts text = slice_split (λ c. c == 44) text

-- a list has 1 to 16 filters, of which some may be equal
unfoldable pub are_filters : List (List ℕ) → Bool
are_filters filters = has_one_to 16 filters && list_all is_filter filters
