-- Answers that wait, and go to a sink in parts.
use Rattle.std.proofs.Common.{◌≡◌, ℕ, List, [], ◌++◌, take, drop, take-append-drop, append_assoc, append-nil, Option, refl, sym, ap, subst, ◌∙◌}
use Rattle.std.specs.Io.KnownBytes.{Appends}
use Rattle.std.proofs.KnownBytes.{Appends-nil, Appends-trans}
use Rattle.kv_replay.specs.Outcome.{IsWholeLines}
use Rattle.kv_replay.specs.inside.Written.{AppendsFront, Pours, PoursFront, Puts, PutsWhole}
use Rattle.kv_replay.proofs.WholeLines.{IsWholeLines-append, IsWholeLines-nil}

-- nothing was added, and nothing went
pub pours_none : (held : Option (List ℕ)) (out : List ℕ) → Pours [] held out held out
pours_none held out = record { gone = []; parts = append-nil out; written = Appends-nil held }

-- a text was added, and waits
pub pours_out : (text : List ℕ) (held : Option (List ℕ)) (out out' : List ℕ) → out' ≡ out ++ text → Pours text held out held out'
pours_out text held out out' e = record { gone = []; parts = sym e; written = Appends-nil held }

-- all that waited went
pub pours_gone : (held holds : Option (List ℕ)) (out shown : List ℕ) → shown ≡ out → Appends held holds shown → Pours [] held out holds []
pours_gone held holds out shown same written = record { gone = out; parts = refl; written = subst (Appends held holds) same written }

module _ (a b : List ℕ) (held mid holds : Option (List ℕ)) (o p q : List ℕ) (first : Pours a held o mid p) where
  -- one text after another
  pub pours-trans : Pours b mid p holds q → Pours (a ++ b) held o holds q
  pours-trans second = record {
    gone = first.gone ++ second.gone;
    parts = sym (append_assoc o a b) ∙ ap (λ t. t ++ b) first.parts ∙ append_assoc first.gone p b ∙ ap (λ t. first.gone ++ t) second.parts
        ∙ sym (append_assoc first.gone second.gone q);
    written = Appends-trans held mid holds first.gone second.gone first.written second.written;
  }

  pub puts_later : Puts (p ++ b) mid holds → Puts (o ++ (a ++ b)) held holds
  puts_later second = record {
    front = first.gone ++ second.front;
    rest = second.rest;
    parts = sym (append_assoc o a b) ∙ ap (λ t. t ++ b) first.parts ∙ append_assoc first.gone p b ∙ ap (λ t. first.gone ++ t) second.parts
        ∙ sym (append_assoc first.gone second.front second.rest);
    written = Appends-trans held mid holds first.gone second.front first.written second.written;
  }

  pub front_later : IsWholeLines a → PoursFront b mid p holds q → PoursFront (a ++ b) held o holds q
  front_later lines second = record {
    front = a ++ second.front;
    rest = second.rest;
    parts = ap (λ t. a ++ t) second.parts ∙ sym (append_assoc a second.front second.rest);
    whole = IsWholeLines-append a second.front lines second.whole;
    poured = record {
      gone = first.gone ++ second.poured.gone;
      parts = sym (append_assoc o a second.front) ∙ ap (λ t. t ++ second.front) first.parts ∙ append_assoc first.gone p second.front
          ∙ ap (λ t. first.gone ++ t) second.poured.parts ∙ sym (append_assoc first.gone second.poured.gone q);
      written = Appends-trans held mid holds first.gone second.poured.gone first.written second.poured.written;
    };
  }

-- more of what waits went
pub pours_on : (text : List ℕ) (held mid holds : Option (List ℕ)) (o p q : List ℕ) → Pours text held o mid p → Pours [] mid p holds q → Pours text held o holds q
pours_on text held mid holds o p q first second =
    subst (λ t. Pours t held o holds q) (append-nil text) (pours-trans text [] held mid holds o p q first second)

-- a beginning of what waits went
pub puts_waiting : (text : List ℕ) (held mid holds : Option (List ℕ)) (o p : List ℕ) → Pours text held o mid p → (n : ℕ) × Appends mid holds (take n p) → Puts (o ++ text) held holds
puts_waiting text held mid holds o p first (n, written) = record {
  front = first.gone ++ take n p;
  rest = drop n p;
  parts = first.parts ∙ ap (λ t. first.gone ++ t) (sym (take-append-drop n p)) ∙ sym (append_assoc first.gone (take n p) (drop n p));
  written = Appends-trans held mid holds first.gone (take n p) first.written written;
}

-- of a longer text
pub puts_more : (a b : List ℕ) (held holds : Option (List ℕ)) (o : List ℕ) → Puts (o ++ a) held holds → Puts (o ++ (a ++ b)) held holds
puts_more a b held holds o puts = record {
  front = puts.front;
  rest = puts.rest ++ b;
  parts = sym (append_assoc o a b) ∙ ap (λ t. t ++ b) puts.parts ∙ append_assoc puts.front puts.rest b;
  written = puts.written;
}

pub front_more : (a b : List ℕ) (held holds : Option (List ℕ)) (o q : List ℕ) → PoursFront a held o holds q → PoursFront (a ++ b) held o holds q
front_more a b held holds o q part = record {
  front = part.front;
  rest = part.rest ++ b;
  parts = ap (λ t. t ++ b) part.parts ∙ append_assoc part.front part.rest b;
  whole = part.whole;
  poured = part.poured;
}

-- nothing was added
pub front_none : (all : List ℕ) (held holds : Option (List ℕ)) (o q : List ℕ) → Pours [] held o holds q → PoursFront all held o holds q
front_none all held holds o q poured = record { front = []; rest = all; parts = refl; whole = IsWholeLines-nil; poured = poured }

-- a beginning was added, and waits
pub front_out : (all : List ℕ) (held : Option (List ℕ)) (o q : List ℕ) → AppendsFront all o q → PoursFront all held o held q
front_out all held o q part = record {
  front = part.front;
  rest = part.rest;
  parts = part.parts;
  whole = part.whole;
  poured = pours_out part.front held o q part.appended;
}

-- ---- where nothing waited before, and what waits is written in the end

module _ (all : List ℕ) (held mid holds : Option (List ℕ)) (out shown : List ℕ) (same : shown ≡ out) where
  pub poured_all : Pours all held [] mid out → Appends mid holds shown → Appends held holds all
  poured_all made written =
      subst (Appends held holds) (sym made.parts)
      (Appends-trans held mid holds made.gone out made.written (subst (Appends mid holds) same written))

  pub poured_part : Pours all held [] mid out → (n : ℕ) × Appends mid holds (take n shown) → Puts all held holds
  poured_part made (n, written) = puts_waiting all held mid holds [] out made (n, subst (λ t. Appends mid holds (take n t)) same written)

  pub poured_front_part : PoursFront all held [] mid out → (n : ℕ) × Appends mid holds (take n shown) → Puts all held holds
  poured_front_part made (n, written) =
      let puts = puts_waiting made.front held mid holds [] out made.poured (n, subst (λ t. Appends mid holds (take n t)) same written) in
      record {
        front = puts.front;
        rest = puts.rest ++ made.rest;
        parts = made.parts ∙ ap (λ t. t ++ made.rest) puts.parts ∙ append_assoc puts.front puts.rest made.rest;
        written = puts.written;
      }

  pub poured_front : PoursFront all held [] mid out → Appends mid holds shown → PutsWhole all held holds
  poured_front made written = record {
    front = made.front;
    rest = made.rest;
    parts = made.parts;
    whole = made.whole;
    written = subst (Appends held holds) (sym made.poured.parts)
        (Appends-trans held mid holds made.poured.gone out made.poured.written (subst (Appends mid holds) same written));
  }

-- of a list of one text
pub pours_once : (text : List ℕ) (held holds : Option (List ℕ)) (o q : List ℕ) → Pours text held o holds q → Pours (text ++ []) held o holds q
pours_once text held holds o q poured = subst (λ t. Pours t held o holds q) (sym (append-nil text)) poured
