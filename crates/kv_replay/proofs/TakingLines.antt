-- A script takes lines one at a time.
use Rattle.std.proofs.Common.{◌≡◌, ◌==◌, ◌<◌, ◌≤◌, ◌+◌, ◌-◌, ℕ, suc, add-one, true, false, nat_lt, List, [], ◌∷◌, ◌++◌, length, length-append, length-drop, take, take_all, drop, get_or, append_assoc, append-nil, Option, refl, sym, ap, subst, ◌∙◌, arith, inl, inr}
use Rattle.std.proofs.Math.Seq.{append_snoc, get_or-take, length-take-le, split_at, take-nil}
use Rattle.std.proofs.lemmas.Bool.{cases_Bool, eqb-true, ltb-true, ltb-false}
use Rattle.memchr.specs.Find.{NoneBefore, Nowhere, Passes, is_byte}
use Rattle.kv_script.specs.declared.form.Form.{Form}
use Rattle.kv_replay.specs.Outcome.{IsWholeLines}
use Rattle.kv_replay.specs.inside.Reading.{Reading, after_bytes, ended, grown, line_ended, said, step, within}
use Rattle.kv_replay.specs.inside.Scripted.{Scripted, Holds}
use Rattle.kv_replay.specs.Sessions.{Session, end_text, line_text, line_next}
use Rattle.kv_replay.specs.inside.Written.{Pours, PoursFront, Puts}
use Rattle.kv_replay.specs.declared.lines.TheConstants.{KEPT_BYTES}
use Rattle.kv_replay.proofs.Pours.{front_later, front_more, pours-trans, pours_none, puts_later, puts_more}
use Rattle.kv_replay.proofs.WholeLines.{IsWholeLines-append, IsWholeLines-nil}
use Rattle.kv_replay.proofs.ByteByByte.{after-append, said-append}
use Rattle.kv_replay.proofs.Turns.{line_next-long, line_text-long, line_text-whole}

-- ---- bytes that end no line

-- no line feed is among them
abbrev pub IsWithin : List ℕ → Type 0
IsWithin part = (k : ℕ) → k < length part → ¬ ((get_or part k 0 == 10) ≡ true)

within_later : (x : ℕ) (xs : List ℕ) → IsWithin (x ∷ xs) → IsWithin xs
within_later x xs all k inside = all (suc k) (omega arith)

grown-nil : (limit : ℕ) (line : List ℕ) → grown limit line [] ≡ line
grown-nil limit line = ap (λ more. line ++ more) (take-nil (limit + 1 - length line)) ∙ append-nil line

-- a byte more of a line that is too long
grown-long : (limit : ℕ) (line : List ℕ) (x : ℕ) (xs : List ℕ) → limit < length line → grown limit line xs ≡ grown limit line (x ∷ xs)
grown-long limit line x xs long =
    let none : limit + 1 - length line ≡ 0 = omega (arith, long) in
    rw none refl

-- and of another
grown-short : (limit : ℕ) (line : List ℕ) (x : ℕ) (xs : List ℕ) → length line ≤ limit
    → grown limit (line ++ x ∷ []) xs ≡ grown limit line (x ∷ xs)
grown-short limit line x xs short =
    let here : limit + 1 - length line ≡ suc (limit - length line) = omega (arith, short) in
    let there : limit + 1 - length (line ++ x ∷ []) ≡ limit - length line = omega (arith, length-append line (x ∷ []), short) in
    rw (here, there) (append_snoc line x (take (limit - length line) xs))

module _ {S : Type 0} (limit : ℕ) (text : S → List ℕ → List ℕ) (next : S → List ℕ → S) where
  step-within : (r : Reading S) (x : ℕ) (xs : List ℕ) → (x == 10) ≡ false → within limit (step limit text next r x) xs ≡ within limit r (x ∷ xs)
  step-within r x xs inside = elim (cases_Bool (nat_lt limit (length r.line))) [
    | inl long ↦ rw (inside, long) (ap (λ line. record { state = r.state; line = line }) (grown-long limit r.line x xs (ltb-true limit (length r.line) long)))
    | inr short ↦ rw (inside, short) (ap (λ line. record { state = r.state; line = line }) (grown-short limit r.line x xs (ltb-false limit (length r.line) short)))
  ]

  said-byte : (r : Reading S) (x : ℕ) (bytes : List ℕ) → (x == 10) ≡ false → said limit text next r (x ∷ bytes) ≡ said limit text next (step limit text next r x) bytes
  said-byte r x bytes inside = rw inside refl

  -- they say nothing, and belong to the line that has begun
  pub said-within : (r : Reading S) (part rest : List ℕ) → IsWithin part → said limit text next r (part ++ rest) ≡ said limit text next (within limit r part) rest
  said-within r [] rest all = ap (λ line. said limit text next (record { state = r.state; line = line }) rest) (sym (grown-nil limit r.line))
  said-within r (x ∷ xs) rest all = elim (cases_Bool (x == 10)) [
    | inl feed ↦ absurd (all 0 (omega arith) feed)
    | inr inside ↦
        said-byte r x (xs ++ rest) inside ∙ said-within (step limit text next r x) xs rest (within_later x xs all)
        ∙ ap (λ reading. said limit text next reading rest) (step-within r x xs inside)
  ]

  pub after-within : (r : Reading S) (part rest : List ℕ) → IsWithin part → after_bytes limit text next r (part ++ rest) ≡ after_bytes limit text next (within limit r part) rest
  after-within r [] rest all = ap (λ line. after_bytes limit text next (record { state = r.state; line = line }) rest) (sym (grown-nil limit r.line))
  after-within r (x ∷ xs) rest all = elim (cases_Bool (x == 10)) [
    | inl feed ↦ absurd (all 0 (omega arith) feed)
    | inr inside ↦
        after-within (step limit text next r x) xs rest (within_later x xs all)
        ∙ ap (λ reading. after_bytes limit text next reading rest) (step-within r x xs inside)
  ]

-- what is left behind a place
pub rest_is : (left : List ℕ) (n : ℕ) → take (length left - n) (drop n left) ≡ drop n left
rest_is left n = take_all (length left - n) (drop n left) (omega (arith, length-drop n left))

-- ---- lines that were taken

abbrev Said : Form → Reading Session → List ℕ → List ℕ
Said form = said KEPT_BYTES (line_text form) (line_next form)

abbrev After : Form → Reading Session → List ℕ → Reading Session
After form = after_bytes KEPT_BYTES (line_text form) (line_next form)

abbrev Ended : Form → Reading Session → List ℕ
Ended form = ended KEPT_BYTES (line_text form) (line_next form)

abbrev LineEnded : Form → Reading Session → Reading Session
LineEnded form = line_ended KEPT_BYTES (line_text form) (line_next form)

pub no_items : (m n : ℕ) → m ≡ n → (m == 0) ≡ true → n ≡ 0
no_items m n same none = sym same ∙ eqb-true m 0 none

pub holds_within : (r : Reading Session) (part : List ℕ) (script script' : Scripted) → Holds r script
    → script' ≡ record script { line = grown KEPT_BYTES script.line part } → Holds (within KEPT_BYTES r part) script'
holds_within r part script script' holding is = subst (Holds (within KEPT_BYTES r part)) (sym is) (record {
  session = holding.session;
  line = ap (λ line. grown KEPT_BYTES line part) holding.line;
})

-- where none has begun, bytes that are kept whole are the line
pub within_whole : (r : Reading Session) (part : List ℕ) (script : Scripted) → Holds r script → script.line ≡ [] → length part ≤ KEPT_BYTES
    → within KEPT_BYTES r part ≡ record { state = r.state; line = part }
within_whole r part script holding none fits =
    let empty : r.line ≡ [] = sym holding.line ∙ none in
    ap (λ line. record { state = r.state; line = line }) (rw (empty, take_all (KEPT_BYTES + 1) part (omega (arith, fits))) refl)

-- some of the bytes were taken: what they say waits or went, and what is left completes what all say
pub record Took (form : Form) (r : Reading Session) (bytes : List ℕ) (held : Option (List ℕ)) (before : List ℕ) (wrote : Option (List ℕ)) (out : List ℕ) (script : Scripted) (left : List ℕ) : Type 0 where
  pub reading : Reading Session
  pub holds : Holds reading script
  pub done : List ℕ
  pub whole : IsWholeLines done
  pub poured : Pours done held before wrote out
  pub said_is : Said form r bytes ≡ done ++ Said form reading left
  pub after_is : After form r bytes ≡ After form reading left
  pub front : List ℕ
  pub cut : bytes ≡ front ++ left
  pub reads : reading ≡ After form r front
  pub says : done ≡ Said form r front

pub took_none : {form : Form} (r : Reading Session) (bytes : List ℕ) (held : Option (List ℕ)) (out : List ℕ) (script : Scripted) → Holds r script → Took form r bytes held out held out script bytes
took_none {form} r bytes held out script holding = record {
  reading = r;
  holds = holding;
  done = [];
  whole = IsWholeLines-nil;
  poured = pours_none held out;
  said_is = refl;
  after_is = refl;
  front = [];
  cut = refl;
  reads = refl;
  says = refl;
}

-- what is left, where a line feed is in it
pub record HasLine (left part rest : List ℕ) : Type 0 where
  pub parts : left ≡ part ++ 10 ∷ rest
  pub inside : IsWithin part

-- the first line feed ends a line
pub first_line : (left : List ℕ) (at : ℕ) → NoneBefore (Passes (is_byte 10) left) 0 (length left) at × Passes (is_byte 10) left at
    → HasLine left (take at left) (drop (at + 1) left)
first_line left at found =
    let feed : get_or left at 0 ≡ 10 = eqb-true (get_or left at 0) 10 found.1 in
    record {
      parts = split_at left at 0 found.0.high ∙ rw (feed, add-one) refl;
      inside = λ k inside passes.
          let below : k < at = omega (arith, inside, length-take-le at left (omega (arith, found.0.high))) in
          found.0.before k (omega arith) below (ap (λ byte. byte == 10) (sym (get_or-take at left k 0 below)) ∙ passes);
    }

pub no_line : (left : List ℕ) → Nowhere (Passes (is_byte 10) left) 0 (length left) → IsWithin left
no_line left none k inside passes = none k (omega arith) inside passes

module _ {form : Form} (r : Reading Session) (bytes : List ℕ) (held : Option (List ℕ)) (before : List ℕ) (wrote : Option (List ℕ)) (out : List ℕ) (script : Scripted) (left part rest : List ℕ)
    (so_far : Took form r bytes held before wrote out script left) (line : HasLine left part rest) where
  abbrev whole_line : Reading Session
  whole_line = within KEPT_BYTES so_far.reading part

  abbrev more : List ℕ
  more = Said form (LineEnded form whole_line) rest

  said_line : Said form so_far.reading left ≡ Ended form whole_line ++ more
  said_line = ap (Said form so_far.reading) line.parts ∙ said-within KEPT_BYTES (line_text form) (line_next form) so_far.reading part (10 ∷ rest) line.inside

  -- what all say, by what was said, what this line says, and what is left
  all_is : (so_far.done ++ Ended form whole_line) ++ more ≡ Said form r bytes
  all_is = append_assoc so_far.done (Ended form whole_line) more ∙ sym (so_far.said_is ∙ ap (λ text. so_far.done ++ text) said_line)

  -- what was taken, with this line and its line feed
  abbrev pub taken : List ℕ
  taken = so_far.front ++ (part ++ 10 ∷ [])

  pub cut_more : bytes ≡ taken ++ rest
  cut_more =
      so_far.cut ∙ ap (λ t. so_far.front ++ t) (line.parts ∙ sym (append_assoc part (10 ∷ []) rest)) ∙ sym (append_assoc so_far.front (part ++ 10 ∷ []) rest)

  pub reads_more : LineEnded form whole_line ≡ After form r taken
  reads_more =
      sym (after-append KEPT_BYTES (line_text form) (line_next form) end_text (line_text-long form) (line_next-long form) r so_far.front (part ++ 10 ∷ [])
      ∙ ap (λ reading. After form reading (part ++ 10 ∷ [])) (sym so_far.reads)
      ∙ after-within KEPT_BYTES (line_text form) (line_next form) so_far.reading part (10 ∷ []) line.inside)

  pub says_more : so_far.done ++ Ended form whole_line ≡ Said form r taken
  says_more =
      sym (said-append KEPT_BYTES (line_text form) (line_next form) end_text (line_text-long form) (line_next-long form) r so_far.front (part ++ 10 ∷ [])
      ∙ ap (λ reading. Said form r so_far.front ++ Said form reading (part ++ 10 ∷ [])) (sym so_far.reads)
      ∙ ap (λ t. Said form r so_far.front ++ t) (said-within KEPT_BYTES (line_text form) (line_next form) so_far.reading part (10 ∷ []) line.inside ∙ append-nil (Ended form whole_line))
      ∙ ap (λ t. t ++ Ended form whole_line) (sym so_far.says))

  pub took_line : (wrote' : Option (List ℕ)) (out' : List ℕ) (script' : Scripted) → Pours (Ended form whole_line) wrote out wrote' out' × Holds (LineEnded form whole_line) script'
      → (behind : List ℕ) → behind ≡ rest → Took form r bytes held before wrote' out' script' behind
  took_line wrote' out' script' (said_it, holding) behind is = subst (Took form r bytes held before wrote' out' script') (sym is) (record {
    reading = LineEnded form whole_line;
    holds = holding;
    done = so_far.done ++ Ended form whole_line;
    whole = IsWholeLines-append so_far.done (Ended form whole_line) so_far.whole (line_text-whole form whole_line.state whole_line.line);
    poured = pours-trans so_far.done (Ended form whole_line) held wrote wrote' before out out' so_far.poured said_it;
    said_is = sym all_is;
    after_is = so_far.after_is ∙ ap (After form so_far.reading) line.parts
        ∙ after-within KEPT_BYTES (line_text form) (line_next form) so_far.reading part (10 ∷ rest) line.inside;
    front = taken;
    cut = cut_more;
    reads = reads_more;
    says = says_more;
  })

  pub took_fault : (wrote' : Option (List ℕ)) → Puts (out ++ Ended form whole_line) wrote wrote' → Puts (before ++ Said form r bytes) held wrote'
  took_fault wrote' puts =
      let said = Ended form whole_line in
      subst (λ t. Puts (before ++ t) held wrote') all_is
      (puts_more (so_far.done ++ said) more held wrote' before (puts_later so_far.done said held wrote wrote' before out [] so_far.poured puts))

  pub took_part : (wrote' : Option (List ℕ)) (out' : List ℕ) → PoursFront (Ended form whole_line) wrote out wrote' out' → PoursFront (Said form r bytes) held before wrote' out'
  took_part wrote' out' part =
      let said = Ended form whole_line in
      subst (λ t. PoursFront t held before wrote' out') all_is
      (front_more (so_far.done ++ said) more held wrote' before out' (front_later so_far.done said held wrote wrote' before out out' so_far.poured so_far.whole part))

module _ {form : Form} (r : Reading Session) (bytes : List ℕ) (held : Option (List ℕ)) (before : List ℕ) (wrote : Option (List ℕ)) (out : List ℕ) (script : Scripted) (left : List ℕ)
    (so_far : Took form r bytes held before wrote out script left) where
  -- no line ends in what is left
  pub took_all : IsWithin left → (script' : Scripted) → script' ≡ record script { line = grown KEPT_BYTES script.line left }
      → Pours (Said form r bytes) held before wrote out × Holds (After form r bytes) script'
  took_all inside script' is =
      let same : left ≡ left ++ [] = sym (append-nil left) in
      let none : Said form so_far.reading left ≡ [] =
      ap (Said form so_far.reading) same ∙ said-within KEPT_BYTES (line_text form) (line_next form) so_far.reading left [] inside in
      let after : After form so_far.reading left ≡ within KEPT_BYTES so_far.reading left =
      ap (After form so_far.reading) same ∙ after-within KEPT_BYTES (line_text form) (line_next form) so_far.reading left [] inside in (
        subst (λ t. Pours t held before wrote out) (sym (so_far.said_is ∙ ap (λ t. so_far.done ++ t) none ∙ append-nil so_far.done)) so_far.poured,
        subst (λ reading. Holds reading script') (sym (so_far.after_is ∙ after)) (holds_within so_far.reading left script script' so_far.holds is),
      )
