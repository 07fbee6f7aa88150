-- What the words behind the filters of a watch ask for.
use Rattle.std.specs.Prelude.{ℕ, ◌&&◌, ◌||◌, not, Bool, nat_lt, nat_eq, if◌then◌else◌, List, drop, find, count_by, codes, bytes_eq, Option, None, is_some, option_and_then, Result}
use Rattle.std.specs.List.{list_all, starts_with}
use Rattle.std.specs.Result.{result_map_both}
use Rattle.kv_keys.specs.declared.error.KvError.{KvError}
use Rattle.kv_model.specs.Flags.{start_asked}
use Rattle.kv_model.specs.declared.options.Options.{Options}
use Rattle.kv_script.specs.Words.{number_of}

-- a word `from=..`
abbrev pub is_from : List ℕ → Bool
is_from word = starts_with nat_eq word (codes "from=")

-- the number of a word `from=R`
abbrev pub from_of : List ℕ → Option ℕ
from_of word = if is_from word then number_of (drop 5 word) else None

-- an option is one of four names, or `from=` and a number
abbrev pub is_option : List ℕ → Bool
is_option word =
    ((bytes_eq word (codes "history") || bytes_eq word (codes "updates"))
    || (bytes_eq word (codes "nodeletes") || bytes_eq word (codes "meta")))
    || is_some (from_of word)

-- how often a name stands among these words
abbrev pub times : List ℕ → List (List ℕ) → ℕ
times name words = count_by (λ word. bytes_eq word name) words

abbrev pub is_given : List ℕ → List (List ℕ) → Bool
is_given name words = nat_lt 0 (times name words)

abbrev pub is_repeated : List ℕ → List (List ℕ) → Bool
is_repeated name words = nat_lt 1 (times name words)

abbrev pub is_any_repeated : List (List ℕ) → Bool
is_any_repeated words =
    ((is_repeated (codes "history") words || is_repeated (codes "updates") words)
    || (is_repeated (codes "nodeletes") words || is_repeated (codes "meta") words))
    || nat_lt 1 (count_by is_from words)

-- these words are options, none of them repeated
abbrev pub are_options : List (List ℕ) → Bool
are_options words = list_all is_option words && not (is_any_repeated words)

-- the revision of the word `from=R`, if there is one
abbrev pub from_among : List (List ℕ) → Option ℕ
from_among words = option_and_then from_of (find is_from words)

-- the options that these words ask for, unless they clash: a watch begins in one way
abbrev pub options_of : List (List ℕ) → Result Options KvError
options_of words =
    result_map_both (λ start. record {
      start = start;
      ignore_deletes = is_given (codes "nodeletes") words;
      headers_only = is_given (codes "meta") words;
    })
    (λ error. error) (start_asked (is_given (codes "history") words) (is_given (codes "updates") words)
    (from_among words))
