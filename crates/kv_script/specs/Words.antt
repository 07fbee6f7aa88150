-- What the words of a line say.
use Rattle.std.specs.Prelude.{ℕ, ◌==◌, ◌^◌, ◌&&◌, nat_lt, nat_le, Bool, if◌then◌else◌, List, [], length, codes, bytes_eq, Option, Some, None, option_and_then}
use Rattle.std.specs.List.{slice_split}
use Rattle.std.specs.Str.{all_ascii_digits}
use Rattle.std.specs.Str.Parse.{digits_value}
use Rattle.base64.specs.Engines.{standard}
use Rattle.base64.specs.GeneralPurpose.{decoded_of}

-- the words of a line: the texts between the spaces
abbrev pub words_of : List ℕ → List (List ℕ)
words_of line = slice_split (λ byte. byte == 32) line

-- a number is 1 to 20 digits whose value fits 64 bits
abbrev pub is_number : List ℕ → Bool
is_number word = ((nat_lt 0 (length word) && nat_le (length word) 20) && all_ascii_digits word) && nat_lt
    (digits_value 10 word) (2 ^ 64)

-- the number of a word, where it is one
abbrev pub number_of : List ℕ → Option ℕ
number_of word = if is_number word then Some (digits_value 10 word) else None

-- bytes of which there is at least one
abbrev pub unless_empty : List ℕ → Option (List ℕ)
unless_empty bytes = if nat_lt 0 (length bytes) then Some bytes else None

-- the value of a word: a dash is the empty value, and any other stands in base64, with padding and no stray bits
abbrev pub value_of : List ℕ → Option (List ℕ)
value_of word = if bytes_eq word (codes "-") then Some [] else option_and_then unless_empty (decoded_of standard word)
