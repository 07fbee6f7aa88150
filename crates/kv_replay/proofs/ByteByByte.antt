-- A script byte by byte gives the text of its lines, where a line that is too long is answered alike whatever follows.
use Rattle.std.proofs.Common.{◌≡◌, ℕ, ◌<◌, ◌==◌, nat_lt, Bool, true, false, cond, List, [], ◌∷◌, ◌++◌, length, append_assoc, append-nil, refl, ap, sym, ◌∙◌, inl, inr}
use Rattle.std.specs.List.{onto_first}
use Rattle.std.proofs.lemmas.Bool.{cases_Bool, ltb-true}
use Rattle.kv_replay.specs.Lines.{behind, lines_of, but_last, texts}
use Rattle.kv_replay.specs.inside.Reading.{Reading, beginning, step, said_by, after_bytes, said, closed, ended, line_ended}

-- the line goes before the first of the lines
abbrev pub onto : List ℕ → List (List ℕ) → List (List ℕ)
onto line [] = line ∷ []
onto line (first ∷ lines) = (line ++ first) ∷ lines

onto-nil : (lines : List (List ℕ)) (first : List ℕ) (rest : List (List ℕ)) → lines ≡ first ∷ rest → onto [] lines ≡ lines
onto-nil lines first rest e = rw e refl

pub onto-onto_first : (line : List ℕ) (byte : ℕ) (lines : List (List ℕ)) → onto line (onto_first byte lines) ≡ onto (line ++ byte ∷ []) lines
onto-onto_first line byte [] = refl
onto-onto_first line byte (first ∷ lines) = ap (λ whole. whole ∷ lines) (sym (append_assoc line (byte ∷ []) first))

-- there is a first line
lines_of-first : (bytes : List ℕ) → (first : List ℕ) × (lines : List (List ℕ)) × (lines_of bytes ≡ first ∷ lines)
lines_of-first [] = ([], [], refl)
lines_of-first (byte ∷ bytes) = at_byte (byte == 10) (lines_of-first bytes)
  where
    at_byte : (ends : Bool) → (first : List ℕ) × (lines : List (List ℕ)) × (lines_of bytes ≡ first ∷ lines)
        → (first : List ℕ) × (lines : List (List ℕ)) × (cond ends ([] ∷ lines_of bytes) (onto_first byte (lines_of bytes)) ≡ first ∷ lines)
    at_byte true h = ([], lines_of bytes, refl)
    at_byte false h = (byte ∷ h.0, h.1, ap (onto_first byte) h.2)

pub lines_of-onto : (bytes : List ℕ) → onto [] (lines_of bytes) ≡ lines_of bytes
lines_of-onto bytes = let found = lines_of-first bytes in onto-nil (lines_of bytes) found.0 found.1 found.2

pub lines_of-feed : (byte : ℕ) (bytes : List ℕ) → (byte == 10) ≡ true → lines_of (byte ∷ bytes) ≡ [] ∷ lines_of bytes
lines_of-feed byte bytes h = rw h refl

pub lines_of-inside : (byte : ℕ) (bytes : List ℕ) → (byte == 10) ≡ false → lines_of (byte ∷ bytes) ≡ onto_first byte (lines_of bytes)
lines_of-inside byte bytes h = rw h refl

module _ {S : Type 0} (limit : ℕ) (text : S → List ℕ → List ℕ) (next : S → List ℕ → S) (ending : S → List ℕ)
    (long_text : (s : S) (line more : List ℕ) → limit < length line → text s (line ++ more) ≡ text s line)
    (long_next : (s : S) (line more : List ℕ) → limit < length line → next s (line ++ more) ≡ next s line) where
  -- the definitions at these answers
  abbrev Texts : (S → List ℕ) → S → List (List ℕ) → List ℕ
  Texts = texts text next

  -- where the lines' end says nothing
  abbrev silent : S → List ℕ
  silent s = []

  abbrev Said : Reading S → List ℕ → List ℕ
  Said = said limit text next

  abbrev After : Reading S → List ℕ → Reading S
  After = after_bytes limit text next

  abbrev Step : Reading S → ℕ → Reading S
  Step = step limit text next

  abbrev SaidBy : Reading S → ℕ → List ℕ
  SaidBy = said_by limit text next

  abbrev Ended : Reading S → List ℕ
  Ended = ended limit text next

  abbrev Closed : Reading S → List ℕ
  Closed = closed limit text next ending

  abbrev LineEnded : Reading S → Reading S
  LineEnded = line_ended limit text next

  -- what follows a line that is too long changes nothing
  long_more : (end : S → List ℕ) (s : S) (line more : List ℕ) (lines : List (List ℕ)) → limit < length line → Texts end s ((line ++ more) ∷ lines) ≡ Texts end s (line ∷ lines)
  long_more end s line more lines h =
      ap (λ front. front ++ Texts end (next s (line ++ more)) lines) (long_text s line more h) ∙ ap (λ state. text s line ++ Texts end state lines) (long_next s line more h)

  long_first : (end : S → List ℕ) (s : S) (line more other : List ℕ) (lines : List (List ℕ)) → limit < length line → Texts end s ((line ++ more) ∷ lines) ≡ Texts end s ((line ++ other) ∷ lines)
  long_first end s line more other lines h = long_more end s line more lines h ∙ sym (long_more end s line other lines h)

  long_skip : (s : S) (line : List ℕ) (byte : ℕ) (lines : List (List ℕ)) → limit < length line
      → Texts ending s (onto line (onto_first byte lines)) ≡ Texts ending s (onto line lines)
  long_skip s line byte [] h = long_more ending s line (byte ∷ []) [] h
  long_skip s line byte (first ∷ lines) h = long_first ending s line (byte ∷ first) first lines h

  long_skip_whole : (s : S) (line : List ℕ) (byte : ℕ) (lines : List (List ℕ)) → limit < length line
      → Texts silent s (but_last (onto line (onto_first byte lines))) ≡ Texts silent s (but_last (onto line lines))
  long_skip_whole s line byte [] h = refl
  long_skip_whole s line byte (first ∷ []) h = refl
  long_skip_whole s line byte (first ∷ more ∷ lines) h = long_first silent s line (byte ∷ first) first (but_last (more ∷ lines)) h

  -- a line feed ends the line that has begun
  text_ended : (s : S) (line : List ℕ) (lines : List (List ℕ)) (rest : List ℕ) → Texts ending (next s line) lines ≡ rest
      → Texts ending s (onto line ([] ∷ lines)) ≡ text s line ++ rest
  text_ended s line lines rest h = rw (append-nil line) (ap (λ more. text s line ++ more) h)

  whole_ended : (s : S) (line first : List ℕ) (lines others : List (List ℕ)) (rest : List ℕ) → lines ≡ first ∷ others → Texts silent (next s line) (but_last lines) ≡ rest
      → Texts silent s (but_last (onto line ([] ∷ lines))) ≡ text s line ++ rest
  whole_ended s line first lines others rest e h =
      rw (e, append-nil line) (ap (λ more. text s line ++ more) (rw e at h))

  -- one byte more
  step-feed : (r : Reading S) (byte : ℕ) → (byte == 10) ≡ true → Step r byte ≡ LineEnded r
  step-feed r byte h = rw h refl

  step-long : (r : Reading S) (byte : ℕ) → (byte == 10) ≡ false → nat_lt limit (length r.line) ≡ true → Step r byte ≡ r
  step-long r byte h long = rw (h, long) refl

  abbrev grown : Reading S → ℕ → Reading S
  grown r byte = record { state = r.state; line = r.line ++ byte ∷ [] }

  step-short : (r : Reading S) (byte : ℕ) → (byte == 10) ≡ false → nat_lt limit (length r.line) ≡ false → Step r byte ≡ grown r byte
  step-short r byte h short = rw (h, short) refl

  said_by-feed : (r : Reading S) (byte : ℕ) → (byte == 10) ≡ true → SaidBy r byte ≡ Ended r
  said_by-feed r byte h = rw h refl

  said_by-inside : (r : Reading S) (byte : ℕ) → (byte == 10) ≡ false → SaidBy r byte ≡ []
  said_by-inside r byte h = rw h refl

  -- what is said from here on
  abbrev all_said : Reading S → List ℕ → List ℕ
  all_said r bytes = Said r bytes ++ Closed (After r bytes)

  all_said-cons : (r r' : Reading S) (byte : ℕ) (bytes front : List ℕ) → SaidBy r byte ≡ front → Step r byte ≡ r' → all_said r (byte ∷ bytes) ≡ front ++ all_said r' bytes
  all_said-cons r r' byte bytes front q e =
      append_assoc (SaidBy r byte) (Said (Step r byte) bytes) (Closed (After (Step r byte) bytes))
      ∙ ap (λ begun. begun ++ all_said (Step r byte) bytes) q ∙ ap (λ state. front ++ all_said state bytes) e

  said-cons : (r r' : Reading S) (byte : ℕ) (bytes front : List ℕ) → SaidBy r byte ≡ front → Step r byte ≡ r' → Said r (byte ∷ bytes) ≡ front ++ Said r' bytes
  said-cons r r' byte bytes front q e = ap (λ begun. begun ++ Said (Step r byte) bytes) q ∙ ap (λ state. front ++ Said state bytes) e

  -- the text of all the lines, where one has begun
  text_of_bytes : (r : Reading S) (bytes : List ℕ) → Texts ending r.state (onto r.line (lines_of bytes)) ≡ all_said r bytes
  text_of_bytes r [] = rw (append-nil r.line) refl
  text_of_bytes r (byte ∷ bytes) = elim (cases_Bool (byte == 10)) [
    | inl feed ↦
        ap (λ lines. Texts ending r.state (onto r.line lines)) (lines_of-feed byte bytes feed)
        ∙ text_ended r.state r.line (lines_of bytes) (all_said (LineEnded r) bytes)
        (ap (Texts ending (next r.state r.line)) (sym (lines_of-onto bytes)) ∙ text_of_bytes (LineEnded r) bytes)
        ∙ sym (all_said-cons r (LineEnded r) byte bytes (Ended r) (said_by-feed r byte feed) (step-feed r byte feed))
    | inr inside ↦
        ap (λ lines. Texts ending r.state (onto r.line lines)) (lines_of-inside byte bytes inside)
        ∙ elim (cases_Bool (nat_lt limit (length r.line))) [
          | inl long ↦
              long_skip r.state r.line byte (lines_of bytes) (ltb-true limit (length r.line) long) ∙ text_of_bytes r bytes
              ∙ sym (all_said-cons r r byte bytes [] (said_by-inside r byte inside) (step-long r byte inside long))
          | inr short ↦
              ap (Texts ending r.state) (onto-onto_first r.line byte (lines_of bytes)) ∙ text_of_bytes (grown r byte) bytes
              ∙ sym (all_said-cons r (grown r byte) byte bytes [] (said_by-inside r byte inside) (step-short r byte inside short))
        ]
  ]

  -- the text of the lines that a line feed ends
  whole_of_bytes : (r : Reading S) (bytes : List ℕ) → Texts silent r.state (but_last (onto r.line (lines_of bytes))) ≡ Said r bytes
  whole_of_bytes r [] = refl
  whole_of_bytes r (byte ∷ bytes) = elim (cases_Bool (byte == 10)) [
    | inl feed ↦
        let found = lines_of-first bytes in
        ap (λ lines. Texts silent r.state (but_last (onto r.line lines))) (lines_of-feed byte bytes feed)
        ∙ whole_ended r.state r.line found.0 (lines_of bytes) found.1 (Said (LineEnded r) bytes) found.2
        (ap (λ lines. Texts silent (next r.state r.line) (but_last lines)) (sym (lines_of-onto bytes)) ∙ whole_of_bytes (LineEnded r) bytes)
        ∙ sym (said-cons r (LineEnded r) byte bytes (Ended r) (said_by-feed r byte feed) (step-feed r byte feed))
    | inr inside ↦
        ap (λ lines. Texts silent r.state (but_last (onto r.line lines))) (lines_of-inside byte bytes inside)
        ∙ elim (cases_Bool (nat_lt limit (length r.line))) [
          | inl long ↦
              long_skip_whole r.state r.line byte (lines_of bytes) (ltb-true limit (length r.line) long) ∙ whole_of_bytes r bytes
              ∙ sym (said-cons r r byte bytes [] (said_by-inside r byte inside) (step-long r byte inside long))
          | inr short ↦
              ap (λ lines. Texts silent r.state (but_last lines)) (onto-onto_first r.line byte (lines_of bytes)) ∙ whole_of_bytes (grown r byte) bytes
              ∙ sym (said-cons r (grown r byte) byte bytes [] (said_by-inside r byte inside) (step-short r byte inside short))
        ]
  ]

  -- the text of a whole script, from a state on
  pub texts-said : (s : S) (input : List ℕ) → Texts ending s (lines_of input) ≡ Said (beginning s) input ++ Closed (After (beginning s) input)
  texts-said s input = ap (Texts ending s) (sym (lines_of-onto input)) ∙ text_of_bytes (beginning s) input

  -- and of its lines that a line feed ends
  pub whole_texts-said : (s : S) (input : List ℕ) → Texts silent s (but_last (lines_of input)) ≡ Said (beginning s) input
  whole_texts-said s input = ap (λ lines. Texts silent s (but_last lines)) (sym (lines_of-onto input)) ∙ whole_of_bytes (beginning s) input

  -- the state behind the lines, where one has begun
  abbrev Behind : S → List (List ℕ) → S
  Behind = behind next

  abbrev past : Reading S → S
  past r = next r.state r.line

  behind_ended : (s : S) (line : List ℕ) (lines : List (List ℕ)) (end : S) → Behind (next s line) lines ≡ end → Behind s (onto line ([] ∷ lines)) ≡ end
  behind_ended s line lines end h = rw (append-nil line) h

  behind_skip : (s : S) (line : List ℕ) (byte : ℕ) (lines : List (List ℕ)) → limit < length line
      → Behind s (onto line (onto_first byte lines)) ≡ Behind s (onto line lines)
  behind_skip s line byte [] h = long_next s line (byte ∷ []) h
  behind_skip s line byte (first ∷ lines) h = ap (λ state. Behind state lines) (long_next s line (byte ∷ first) h ∙ sym (long_next s line first h))

  past-step : (r r' : Reading S) (byte : ℕ) (bytes : List ℕ) → Step r byte ≡ r' → past (After r (byte ∷ bytes)) ≡ past (After r' bytes)
  past-step r r' byte bytes e = ap (λ state. past (After state bytes)) e

  behind_bytes : (r : Reading S) (bytes : List ℕ) → Behind r.state (onto r.line (lines_of bytes)) ≡ past (After r bytes)
  behind_bytes r [] = rw (append-nil r.line) refl
  behind_bytes r (byte ∷ bytes) = elim (cases_Bool (byte == 10)) [
    | inl feed ↦
        ap (λ lines. Behind r.state (onto r.line lines)) (lines_of-feed byte bytes feed)
        ∙ behind_ended r.state r.line (lines_of bytes) (past (After (LineEnded r) bytes))
        (ap (Behind (next r.state r.line)) (sym (lines_of-onto bytes)) ∙ behind_bytes (LineEnded r) bytes)
        ∙ sym (past-step r (LineEnded r) byte bytes (step-feed r byte feed))
    | inr inside ↦
        ap (λ lines. Behind r.state (onto r.line lines)) (lines_of-inside byte bytes inside)
        ∙ elim (cases_Bool (nat_lt limit (length r.line))) [
          | inl long ↦
              behind_skip r.state r.line byte (lines_of bytes) (ltb-true limit (length r.line) long) ∙ behind_bytes r bytes
              ∙ sym (past-step r r byte bytes (step-long r byte inside long))
          | inr short ↦
              ap (Behind r.state) (onto-onto_first r.line byte (lines_of bytes)) ∙ behind_bytes (grown r byte) bytes
              ∙ sym (past-step r (grown r byte) byte bytes (step-short r byte inside short))
        ]
  ]

  -- the state behind a whole script
  pub behind_is : (s : S) (input : List ℕ) → Behind s (lines_of input) ≡ past (After (beginning s) input)
  behind_is s input = ap (Behind s) (sym (lines_of-onto input)) ∙ behind_bytes (beginning s) input

  -- bytes that come in two parts
  pub after-append : (r : Reading S) (xs ys : List ℕ) → After r (xs ++ ys) ≡ After (After r xs) ys
  after-append r [] ys = refl
  after-append r (x ∷ xs) ys = after-append (Step r x) xs ys

  pub said-append : (r : Reading S) (xs ys : List ℕ) → Said r (xs ++ ys) ≡ Said r xs ++ Said (After r xs) ys
  said-append r [] ys = refl
  said-append r (x ∷ xs) ys = ap (λ front. SaidBy r x ++ front) (said-append (Step r x) xs ys) ∙ sym (append_assoc (SaidBy r x) (Said (Step r x) xs) (Said (After (Step r x) xs) ys))
