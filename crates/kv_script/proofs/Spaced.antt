-- The words of a line behind its first space, and a value as it stands there.
use Rattle.std.proofs.Common.{◌≡◌, ℕ, ◌==◌, ◌<◌, Bool, true, false, cond, List, [], ◌∷◌, length, Option, Some, None, Result, Err, codes, refl, ap, sym, ◌∙◌}
use Rattle.std.specs.Prelude.{MatchOption, bytes_eq, if◌then◌else◌}
use Rattle.std.specs.Borrow.{Bor}
use Rattle.std.specs.List.{list_all, onto_first, position_or_len, before_first, after_first}
use Rattle.std.proofs.lemmas.List.Elements.{All-from_get_or}
use Rattle.std.proofs.lemmas.List.Sums.{fails_before_first}
use Rattle.std.proofs.lemmas.List.Splits.{join_with_byte-slice_split, slice_split_first, slice_split_none}
use Rattle.kv_keys.specs.Grammar.{is_present}
use Rattle.kv_keys.specs.declared.error.KvError.{KvError}
use Rattle.kv_keys.specs.declared.error.KvError.TheVariants.{BadCommand}
use Rattle.kv_model.specs.Requests.{Asked, update}
use Rattle.kv_script.specs.Commands.{Meaning, Write, as_they_stood, for_key, named_command, or_bad_command, present_words_command, put_text_command, text_command, update_text_command}
use Rattle.kv_script.specs.Words.{number_of, words_of}

onto_first_more : (c : ℕ) (words : List (List ℕ)) → (first : List ℕ) × (more : List (List ℕ)) × (onto_first c words ≡ first ∷ more)
onto_first_more c [] = (c ∷ [], [], refl)
onto_first_more c (word ∷ words) = (c ∷ word, words, refl)

-- a text has a first word, perhaps an empty one
words_more : (text : List ℕ) → (first : List ℕ) × (more : List (List ℕ)) × (words_of text ≡ first ∷ more)
words_more [] = ([], [], refl)
words_more (c ∷ cs) =
    elim (c == 32) as (λ b. (first : List ℕ) × (more : List (List ℕ)) × (cond b ([] ∷ words_of cs) (onto_first c (words_of cs)) ≡ first ∷ more)) [
      | true ↦ ([], words_of cs, refl)
      | false ↦ onto_first_more c (words_of cs)
    ]

-- a text with no space is its only word
only_word : (text : List ℕ) → position_or_len (λ c. c == 32) text ≡ length text → words_of text ≡ text ∷ []
only_word text none =
    slice_split_none (λ c. c == 32) text (All-from_get_or (λ c. (c == 32) ≡ false) text 0 (λ k h. fails_before_first (λ c. c == 32) text k 0 (rw none h)))

-- what stands before the first space is the first word
pub split_words : (text : List ℕ) (parts : Option (Bor (List ℕ) × Bor (List ℕ)))
    → MatchOption parts (position_or_len (λ c. c == 32) text ≡ length text)
    (λ x. (x.0.now ≡ before_first (λ c. c == 32) text) × (x.1.now ≡ after_first (λ c. c == 32) text) × (position_or_len (λ c. c == 32) text < length text))
    → MatchOption parts (words_of text ≡ text ∷ []) (λ x. words_of text ≡ x.0.now ∷ words_of x.1.now)
split_words text None none = only_word text none
split_words text (Some parts) at = rw (at.0, at.1) (slice_split_first (λ c. c == 32) text 0 at.2)

-- the words of a value, as they stood, are the value
pub put_text : (makes : List ℕ → List ℕ → Asked) (key value : List ℕ)
    → put_text_command makes (key ∷ words_of value) ≡ (if is_present key then for_key key (Write (makes key value)) else Err BadCommand)
put_text makes key value =
    let more = words_more value in
    let stood : as_they_stood (more.0 ∷ more.1) ≡ value = ap as_they_stood (sym more.2) ∙ join_with_byte-slice_split 32 value in
    rw (more.2, stood) refl

pub update_text : (arguments key rest number value : List ℕ) → words_of arguments ≡ key ∷ words_of rest → words_of rest ≡ number ∷ words_of value
    → update_text_command (words_of arguments)
    ≡ (if is_present key then or_bad_command (number_of number) (λ last. for_key key (Write (update key value last))) else Err BadCommand)
update_text arguments key rest number value one two =
    let more = words_more value in
    let stood : as_they_stood (more.0 ∷ more.1) ≡ value = ap as_they_stood (sym more.2) ∙ join_with_byte-slice_split 32 value in
    rw (one, two, more.2, stood) refl

-- a lone word has no value
lone : (p c u present : Bool) (rest : Result Meaning KvError)
    → (if p then Err BadCommand else if c then Err BadCommand else if u then Err BadCommand
    else if present then (if p then Err BadCommand else if c then Err BadCommand else if u then Err BadCommand else rest) else Err BadCommand)
    ≡ (if present then (if p then Err BadCommand else if c then Err BadCommand else if u then Err BadCommand else rest) else Err BadCommand)
lone true c u true rest = refl
lone true c u false rest = refl
lone false true u true rest = refl
lone false true u false rest = refl
lone false false true true rest = refl
lone false false true false rest = refl
lone false false false present rest = refl

lone_word : (word : List ℕ) → text_command (word ∷ []) ≡ present_words_command (word ∷ [])
unfolding text_command named_command
lone_word word =
    lone (bytes_eq word (codes "put")) (bytes_eq word (codes "create")) (bytes_eq word (codes "update")) (list_all is_present (word ∷ [])) _

pub lone_line : (line : List ℕ) → words_of line ≡ line ∷ [] → text_command (words_of line) ≡ present_words_command (words_of line)
lone_line line only = ap text_command only ∙ lone_word line ∙ ap present_words_command (sym only)
