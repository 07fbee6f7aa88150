-- Up to a million writes leave a key that none of them has.
use Rattle.std.proofs.Common.{◌≡◌, ℕ, zero, suc, ◌+◌, ◌<◌, ◌≤◌, Bool, true, false, cond, ◌&&◌, ◌||◌, ◌==◌, List, [], ◌∷◌, length, map, ⊎_elim, refl, sym, subst, ap, ◌∙◌, arith}
use Rattle.std.specs.Prelude.{nat_lt, nat_le}
use Rattle.std.specs.List.{Contains, list_all}
use Rattle.std.specs.Str.{bytes_eq}
use Rattle.std.specs.Cmp.Lexicographic.{same_text}
use Rattle.std.proofs.lemmas.Bool.{and_from, eqb-true, eq-eqb, ltb-true, ltb-false, lt-ltb, le-leb}
use Rattle.std.proofs.lemmas.Bool.Decides.{nat_tests}
use Rattle.std.proofs.lemmas.List.{length-map}
use Rattle.std.proofs.lemmas.List.Elements.{All-weaker}
use Rattle.std.proofs.lemmas.List.Sums.{AllPass-from_list_all}
use Rattle.std.proofs.lemmas.List.Splits.{slice_split_none}
use Rattle.kv_keys.specs.Grammar.{has_one_to, is_present, is_key_character, is_key}
use Rattle.kv_keys.specs.Matching.{tokens}
use Rattle.kv_keys.proofs.Parts.{all_weaker}
use Rattle.kv_model.specs.Acts.{Write}
use Rattle.kv_model.proofs.Members.{Contains-map, Contains-none, Contains-cases, Contains-here, Contains-there}

-- what follows the first character of the texts that begin with this one
abbrev tails : ℕ → List (List ℕ) → List (List ℕ)
tails c [] = []
tails c ([] ∷ texts) = tails c texts
tails c ((d ∷ ds) ∷ texts) = cond (d == c) (ds ∷ tails c texts) (tails c texts)

-- how many texts of a and b have this length
abbrev size : ℕ → ℕ
size zero = 1
size (suc n) = size n + size n

-- the tail of a text that begins with a character is among the tails
tail_among : (c : ℕ) (texts : List (List ℕ)) (t : List ℕ) → Contains texts (c ∷ t) → Contains (tails c texts) t
tail_among c [] t m = absurd (Contains-none (c ∷ t) m)
tail_among c ([] ∷ texts) t m = ⊎_elim (λ e. absurd cc) (λ n. tail_among c texts t n) (Contains-cases [] texts (c ∷ t) m)
tail_among c ((d ∷ ds) ∷ texts) t m = ⊎_elim here (λ n. there (d == c) (tail_among c texts t n)) (Contains-cases (d ∷ ds) texts (c ∷ t) m)
  where
    here : (d ∷ ds) ≡ (c ∷ t) → Contains (cond (d == c) (ds ∷ tails c texts) (tails c texts)) t
    here e =
        let one : d ≡ c = cc in
        let rest : ds ≡ t = cc in
        subst (λ (b : Bool). Contains (cond b (ds ∷ tails c texts) (tails c texts)) t) (sym (eq-eqb d c one))
        (subst (λ (x : List ℕ). Contains (x ∷ tails c texts) t) (sym rest) (Contains-here t (tails c texts)))

    there : (b : Bool) → Contains (tails c texts) t → Contains (cond b (ds ∷ tails c texts) (tails c texts)) t
    there true n = Contains-there ds (tails c texts) t n
    there false n = n

-- the texts that begin with a and those that begin with b are no more than all
tails_few : (texts : List (List ℕ)) → length (tails 97 texts) + length (tails 98 texts) ≤ length texts
tails_few [] = omega arith
tails_few ([] ∷ texts) = omega (arith, tails_few texts)
tails_few ((d ∷ ds) ∷ texts) = by (d == 97) refl (d == 98) refl (tails_few texts)
  where
    by : (a : Bool) → (d == 97) ≡ a → (b : Bool) → (d == 98) ≡ b → length (tails 97 texts) + length (tails 98 texts) ≤ length texts
        → length (cond a (ds ∷ tails 97 texts) (tails 97 texts)) + length (cond b (ds ∷ tails 98 texts) (tails 98 texts)) ≤ length ((d ∷ ds) ∷ texts)
    by true e true f few = absurd (omega (arith, eqb-true d 97 e, eqb-true d 98 f))
    by true e false f few = omega (arith, few)
    by false e true f few = omega (arith, few)
    by false e false f few = omega (arith, few)

-- the characters a and b
abbrev is_a_or_b : ℕ → Bool
is_a_or_b c = c == 97 || c == 98

-- a text of a and b with this length that is none of these
abbrev Differs : ℕ → List (List ℕ) → Type 0
Differs n texts = (text : List ℕ) × (length text ≡ n) × (list_all is_a_or_b text ≡ true) × (Contains texts text → ⊥)

-- a character before a text that is none of the tails gives one that is none of the texts
longer : (c n : ℕ) (texts : List (List ℕ)) → is_a_or_b c ≡ true → Differs n (tails c texts) → Differs (suc n) texts
longer c n texts of d = (c ∷ d.0, ap (λ (k : ℕ). suc k) d.1, and_from (is_a_or_b c) (list_all is_a_or_b d.0) of d.2, (λ m. d.3 (tail_among c texts d.0 m)))

-- texts that are fewer than those of this length leave one of them
differs : (n : ℕ) (texts : List (List ℕ)) → length texts < size n → Differs n texts
differs zero texts few = ([], refl, refl, (λ m. omega (arith, few, m.1)))
differs (suc n) texts few = by (nat_lt (length (tails 97 texts)) (size n)) refl (differs n (tails 97 texts)) (differs n (tails 98 texts))
  where
    by : (b : Bool) → nat_lt (length (tails 97 texts)) (size n) ≡ b
        → (length (tails 97 texts) < size n → Differs n (tails 97 texts)) → (length (tails 98 texts) < size n → Differs n (tails 98 texts)) → Differs (suc n) texts
    by true e first second = longer 97 n texts refl (first (ltb-true (length (tails 97 texts)) (size n) e))
    by false e first second = longer 98 n texts refl (second (omega (arith, ltb-false (length (tails 97 texts)) (size n) e, tails_few texts, few)))

-- there are more than a million texts of 20 characters a and b
size_20 : size 20 ≡ 1048576
size_20 = refl

-- these characters are characters of keys
of_key : (c : ℕ) → is_a_or_b c ≡ true → is_key_character c ≡ true
of_key c h = grind (arith, nat_tests)

-- and none of them is the dot
no_dot : (c : ℕ) → is_a_or_b c ≡ true → (c == 46) ≡ false
no_dot c h = grind (arith, nat_tests)

-- a text of 20 such characters is a key
key_of_20 : (text : List ℕ) → length text ≡ 20 → list_all is_a_or_b text ≡ true → is_key text ≡ true
unfolding is_key
key_of_20 text long of =
    let one : tokens text ≡ text ∷ [] = slice_split_none (λ c. c == 46) text (All-weaker (λ c. is_a_or_b c ≡ true) (λ c. (c == 46) ≡ false) no_dot text (AllPass-from_list_all is_a_or_b text of)) in
    let some : nat_lt 0 (length text) ≡ true = lt-ltb 0 (length text) (omega arith) in
    let present : list_all is_present (tokens text) ≡ true = ap (list_all is_present) one ∙ and_from (is_present text) true some refl in
    and_from (has_one_to 255 text) (list_all is_key_character text && list_all is_present (tokens text))
    (and_from (nat_lt 0 (length text)) (nat_le (length text) 255) some (le-leb (length text) 255 (omega arith)))
    (and_from (list_all is_key_character text) (list_all is_present (tokens text)) (all_weaker is_a_or_b is_key_character of_key text of) present)

-- there is a key that none of up to a million writes has
pub fresh_key : (ws : List Write) → length ws ≤ 1000000 → (spare : List ℕ) × (is_key spare ≡ true) × ((w : Write) → Contains ws w → bytes_eq w.key spare ≡ false)
fresh_key ws few =
    let keys : List (List ℕ) = map (λ (w : Write). w.key) ws in
    let d = differs 20 keys (omega (arith, few, size_20, length-map ws (λ (w : Write). w.key))) in
    (d.0, key_of_20 d.0 d.1 d.2, (λ w m. other w d.0 (λ e. d.3 (subst (λ (x : List ℕ). Contains keys x) e (Contains-map (λ (v : Write). v.key) ws w m))) (bytes_eq w.key d.0) refl))
  where
    other : (w : Write) (text : List ℕ) → (w.key ≡ text → ⊥) → (b : Bool) → bytes_eq w.key text ≡ b → b ≡ false
    other w text apart true e = absurd (apart (same_text w.key text (sym e)))
    other w text apart false e = refl
