-- A key, byte by byte.
use Rattle.std.proofs.Common.{◌≡◌, ℕ, Bool, true, false, ◌&&◌, ◌||◌, not, cond, List, [], ◌∷◌, length, drop, get_or, ◌+◌, ◌<◌, ◌≤◌, eqb, refl, ap, ◌∙◌, arith}
use Rattle.std.specs.List.{list_all, onto_first}
use Rattle.std.proofs.lemmas.Bool.{eqb-true, lt-ltb}
use Rattle.std.proofs.lemmas.List.{at_drop_more, at_drop_all}
use Rattle.kv_keys.specs.Grammar.{is_present, is_key_character}
use Rattle.kv_keys.specs.Matching.{tokens}
use Rattle.kv_keys.specs.inside.Following.{may_follow}
use Rattle.kv_keys.proofs.Tokens.{tokens_more}

-- each byte may follow those before it, and the last token has begun
unfoldable pub goes_on : Bool → List ℕ → Bool
goes_on begun [] = begun
goes_on begun (c ∷ cs) = may_follow begun c && goes_on (not (eqb c 46)) cs

-- no token is empty, where the first one has begun before these bytes or not
present_from : Bool → List (List ℕ) → Bool
present_from begun [] = begun
present_from begun (token ∷ more) = (begun || is_present token) && list_all is_present more

no_bytes : (begun : Bool) → begun ≡ (true && ((begun || false) && true))
no_bytes true = refl
no_bytes false = refl

at_dot : (begun rest characters more : Bool) → rest ≡ (characters && more)
    → (begun && rest) ≡ (characters && ((begun || false) && more))
at_dot true rest characters more same = same
at_dot false rest true more same = refl
at_dot false rest false more same = refl

at_character : (is_one rest characters more : Bool) → rest ≡ (characters && more)
    → (is_one && rest) ≡ ((is_one && characters) && more)
at_character true rest characters more same = same
at_character false rest characters more same = refl

one_is_present : (c : ℕ) (token : List ℕ) → is_present (c ∷ token) ≡ true
one_is_present c token = lt-ltb 0 (length (c ∷ token)) (omega arith)

-- a token that goes on has begun
longer : (begun : Bool) (c : ℕ) (ts : List (List ℕ)) → present_from begun (onto_first c ts) ≡ present_from true ts
unfolding present_from
longer true c [] = refl
longer false c [] = refl
longer true c (t ∷ ts) = refl
longer false c (t ∷ ts) = rw (one_is_present c t) refl

first_is_present : (text : List ℕ) → present_from false (tokens text) ≡ list_all is_present (tokens text)
unfolding present_from
first_is_present text = let more = tokens_more text in rw more.2 refl

-- one byte more, whatever it is
step : (begun : Bool) (c : ℕ) (cs : List ℕ) (is_dot : Bool) → (is_dot ≡ true → is_key_character c ≡ true)
    → goes_on (not is_dot) cs ≡ (list_all is_key_character cs && present_from (not is_dot) (tokens cs))
    → (cond is_dot begun (is_key_character c) && goes_on (not is_dot) cs)
    ≡ ((is_key_character c && list_all is_key_character cs) && present_from begun (cond is_dot ([] ∷ tokens cs) (onto_first c (tokens cs))))
unfolding present_from
step begun c cs true dot rest =
    rw (dot refl) (at_dot begun (goes_on false cs) (list_all is_key_character cs) (list_all is_present (tokens cs))
    (rest ∙ ap (λ present. list_all is_key_character cs && present) (first_is_present cs)))
step begun c cs false dot rest =
    rw (longer begun c (tokens cs)) (at_character (is_key_character c) (goes_on true cs) (list_all is_key_character cs) (present_from true (tokens cs)) rest)

dot_is_one : (c : ℕ) → eqb c 46 ≡ true → is_key_character c ≡ true
dot_is_one c same = let is_dot : c ≡ 46 = eqb-true c 46 same in rw is_dot refl

goes_on_as : (begun : Bool) (cs : List ℕ) → goes_on begun cs ≡ (list_all is_key_character cs && present_from begun (tokens cs))
unfolding goes_on present_from
goes_on_as begun [] = no_bytes begun
goes_on_as begun (c ∷ cs) = step begun c cs (eqb c 46) (dot_is_one c) (goes_on_as (not (eqb c 46)) cs)

-- from its start on that is so of a whole key
pub goes_on_as_key : (cs : List ℕ) → goes_on false cs ≡ (list_all is_key_character cs && list_all is_present (tokens cs))
goes_on_as_key cs = goes_on_as false cs ∙ ap (λ present. list_all is_key_character cs && present) (first_is_present cs)

-- a byte that may not follow ends it
pub refused : (begun : Bool) (bytes : List ℕ) (i : ℕ) → i < length bytes → may_follow begun (get_or bytes i 0) ≡ false
    → goes_on begun (drop i bytes) ≡ false
unfolding goes_on
refused begun bytes i within denied = at_drop_more (goes_on begun) bytes i 0 within ∙ rw denied refl

-- one that may is passed
pub accepted : (begun : Bool) (bytes : List ℕ) (i : ℕ) → i < length bytes → may_follow begun (get_or bytes i 0) ≡ true
    → goes_on begun (drop i bytes) ≡ goes_on (not (eqb (get_or bytes i 0) 46)) (drop (i + 1) bytes)
unfolding goes_on
accepted begun bytes i within allowed = at_drop_more (goes_on begun) bytes i 0 within ∙ rw allowed refl

pub at_end : (begun : Bool) (bytes : List ℕ) (i : ℕ) → length bytes ≤ i → goes_on begun (drop i bytes) ≡ begun
unfolding goes_on
at_end begun bytes i over = at_drop_all (goes_on begun) bytes i over
