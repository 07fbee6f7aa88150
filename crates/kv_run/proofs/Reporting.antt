-- What is written list by list.
use Rattle.std.proofs.Common.{◌≡◌, ℕ, ◌+◌, ◌<◌, List, [], ◌++◌, length, take, drop, get_or, take-append-drop, append_assoc, append-nil, Option, refl, sym, ap, subst, ◌∙◌}
use Rattle.std.specs.Io.KnownBytes.{Appends}
use Rattle.std.proofs.KnownBytes.{Appends-nil, Appends-trans}
use Rattle.std.proofs.lemmas.List.{drop_more}
use Rattle.kv_run.specs.Reporting.{numbered}
use Rattle.kv_replay.specs.inside.Written.{Puts}

-- the texts of the first n lists were written, and the others are left
pub record Told {X : Type 0} (text : ℕ → List X → List ℕ) (lists : List (List X)) (held holds : Option (List ℕ)) (n : ℕ) : Type 0 where
  pub front : List ℕ
  pub written : Appends held holds front
  pub parts : numbered text 1 lists ≡ front ++ numbered text (n + 1) (drop n lists)

pub told_none : {X : Type 0} (text : ℕ → List X → List ℕ) (lists : List (List X)) (held : Option (List ℕ)) → Told text lists held held 0
told_none {X} text lists held = record { front = []; written = Appends-nil held; parts = refl }

module _ {X : Type 0} (text : ℕ → List X → List ℕ) (lists : List (List X)) (held holds : Option (List ℕ)) (n : ℕ) (so_far : Told text lists held holds n) where
  next : n < length lists → numbered text (n + 1) (drop n lists) ≡ text (n + 1) (get_or lists n []) ++ numbered text (n + 1 + 1) (drop (n + 1) lists)
  next within = ap (numbered text (n + 1)) (drop_more lists n [] within)

  pub told_more : (holds' : Option (List ℕ)) (list : List X) (shown : List ℕ) → n < length lists → list ≡ get_or lists n [] → shown ≡ text (n + 1) list → Appends holds holds' shown → Told text lists held holds' (n + 1)
  told_more holds' list shown within is made written = record {
    front = so_far.front ++ text (n + 1) list;
    written = Appends-trans held holds holds' so_far.front (text (n + 1) list) so_far.written (subst (Appends holds holds') made written);
    parts = so_far.parts ∙ ap (λ t. so_far.front ++ t) (next within ∙ ap (λ l. text (n + 1) l ++ numbered text (n + 1 + 1) (drop (n + 1) lists)) (sym is))
        ∙ sym (append_assoc so_far.front (text (n + 1) list) _);
  }

  -- nothing more was written
  pub told_stop : Puts (numbered text 1 lists) held holds
  told_stop = record { front = so_far.front; rest = numbered text (n + 1) (drop n lists); parts = so_far.parts; written = so_far.written }

  -- of the next text a beginning was written
  pub told_part : (holds' : Option (List ℕ)) (list : List X) (shown : List ℕ) → n < length lists → list ≡ get_or lists n [] → shown ≡ text (n + 1) list → (k : ℕ) × Appends holds holds' (take k shown)
      → Puts (numbered text 1 lists) held holds'
  told_part holds' list shown within is made (k, written) =
      let all = text (n + 1) list in
      let others = numbered text (n + 1 + 1) (drop (n + 1) lists) in
      record {
        front = so_far.front ++ take k all;
        rest = drop k all ++ others;
        parts = so_far.parts ∙ ap (λ t. so_far.front ++ t) (next within ∙ ap (λ l. text (n + 1) l ++ others) (sym is)
            ∙ ap (λ t. t ++ others) (sym (take-append-drop k all)) ∙ append_assoc (take k all) (drop k all) others)
            ∙ sym (append_assoc so_far.front (take k all) (drop k all ++ others));
        written = Appends-trans held holds holds' so_far.front (take k all) so_far.written (subst (λ t. Appends holds holds' (take k t)) made written);
      }

-- all texts were written
pub told_all : {X : Type 0} (text : ℕ → List X → List ℕ) (lists : List (List X)) (held holds : Option (List ℕ)) (n : ℕ) → Told text lists held holds n → drop n lists ≡ [] → Appends held holds (numbered text 1 lists)
told_all {X} text lists held holds n so_far none =
    subst (Appends held holds) (sym (so_far.parts ∙ ap (λ left. so_far.front ++ numbered text (n + 1) left) none ∙ append-nil so_far.front)) so_far.written

-- what was appended to nothing
pub text_made : (shown out before line : List ℕ) → shown ≡ out → out ≡ before ++ line → before ≡ [] → shown ≡ line
text_made shown out before line same made none = same ∙ made ∙ ap (λ t. t ++ line) none

-- a beginning of the first of two texts, or the first and a beginning of the second
pub puts_first : (a b : List ℕ) (held holds : Option (List ℕ)) → Puts a held holds → Puts (a ++ b) held holds
puts_first a b held holds puts = record {
  front = puts.front;
  rest = puts.rest ++ b;
  parts = ap (λ t. t ++ b) puts.parts ∙ append_assoc puts.front puts.rest b;
  written = puts.written;
}

pub puts_second : (a b : List ℕ) (held mid holds : Option (List ℕ)) → Appends held mid a → Puts b mid holds → Puts (a ++ b) held holds
puts_second a b held mid holds first puts = record {
  front = a ++ puts.front;
  rest = puts.rest;
  parts = ap (λ t. a ++ t) puts.parts ∙ sym (append_assoc a puts.front puts.rest);
  written = Appends-trans held mid holds a puts.front first puts.written;
}
