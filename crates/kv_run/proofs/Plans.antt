-- A race's script byte by byte gives the plan of its lines.
use Rattle.std.proofs.Common.{◌≡◌, ℕ, ◌<◌, ◌==◌, nat_lt, Bool, true, false, cond, List, [], ◌∷◌, ◌++◌, length, length-append, append-nil, Option, arith, refl, ap, sym, subst, ◌∙◌, inl, inr}
use Rattle.std.specs.Io.BufRead.{strip_last}
use Rattle.std.specs.Io.KnownBytes.{Consumes}
use Rattle.std.specs.List.{onto_first}
use Rattle.std.proofs.KnownBytes.{Consumes-trans}
use Rattle.std.proofs.lemmas.Bool.{cases_Bool, ltb-true}
use Rattle.kv_keys.specs.declared.error.KvError.TheVariants.{BadCommand}
use Rattle.kv_script.specs.Commands.{is_skipped}
use Rattle.kv_script.specs.declared.form.Form.{Form}
use Rattle.kv_run.specs.Planning.{Planned, after_command, after_line, after_lines, nothing, planned, refuse, takes_part}
use Rattle.kv_replay.specs.Lines.{lines_of}
use Rattle.kv_run.specs.Races.{no_text}
use Rattle.kv_replay.specs.inside.Reading.{Reading, beginning, step, after_bytes, line_ended}
use Rattle.kv_replay.specs.declared.lines.TheConstants.{KEPT_BYTES}
use Rattle.kv_replay.proofs.ByteByByte.{onto, onto-onto_first, lines_of-onto, lines_of-feed, lines_of-inside}
use Rattle.kv_replay.proofs.Texts.{long_command, skipped_more, skipped_strip, strip_length}

-- of a line that is too long only the first byte counts
long_adds : (form : Form) (plan : Planned) (line : List ℕ) → KEPT_BYTES < length line → after_line form plan line ≡ cond (is_skipped line) plan (refuse plan BadCommand)
unfolding after_line after_command
long_adds form plan line h =
    let stripped : 1400000 < length (strip_last 13 line) = omega (arith, strip_length line) in
    rw (skipped_strip line (omega arith), long_command form (strip_last 13 line) stripped)
    (ap (cond (is_skipped line) plan) (either (takes_part (strip_last 13 line))))
  where
    either : (part : Bool) → cond part (refuse plan BadCommand) (refuse plan BadCommand) ≡ refuse plan BadCommand
    either true = refl
    either false = refl

-- what follows a line that is too long changes nothing
long_same : (form : Form) (plan : Planned) (line more : List ℕ) → KEPT_BYTES < length line → after_line form plan (line ++ more) ≡ after_line form plan line
long_same form plan line more h =
    long_adds form plan (line ++ more) (omega (arith, length-append line more))
    ∙ ap (λ skips. cond skips plan (refuse plan BadCommand)) (skipped_more line more (omega arith))
    ∙ sym (long_adds form plan line h)

abbrev After : Form → Reading Planned → List ℕ → Reading Planned
After form = after_bytes KEPT_BYTES no_text (after_line form)

abbrev Step : Form → Reading Planned → ℕ → Reading Planned
Step form = step KEPT_BYTES no_text (after_line form)

abbrev LineEnded : Form → Reading Planned → Reading Planned
LineEnded form = line_ended KEPT_BYTES no_text (after_line form)

abbrev grown : Reading Planned → ℕ → Reading Planned
grown r byte = record { state = r.state; line = r.line ++ byte ∷ [] }

step-feed : (form : Form) (r : Reading Planned) (byte : ℕ) → (byte == 10) ≡ true → Step form r byte ≡ LineEnded form r
step-feed form r byte h = rw h refl

step-long : (form : Form) (r : Reading Planned) (byte : ℕ) → (byte == 10) ≡ false → nat_lt KEPT_BYTES (length r.line) ≡ true → Step form r byte ≡ r
step-long form r byte h long = rw (h, long) refl

step-short : (form : Form) (r : Reading Planned) (byte : ℕ) → (byte == 10) ≡ false → nat_lt KEPT_BYTES (length r.line) ≡ false → Step form r byte ≡ grown r byte
step-short form r byte h short = rw (h, short) refl

long_skip : (form : Form) (plan : Planned) (line : List ℕ) (byte : ℕ) (lines : List (List ℕ)) → KEPT_BYTES < length line
    → after_lines form plan (onto line (onto_first byte lines)) ≡ after_lines form plan (onto line lines)
long_skip form plan line byte [] h = long_same form plan line (byte ∷ []) h
long_skip form plan line byte (first ∷ lines) h =
    ap (λ next. after_lines form next lines) (long_same form plan line (byte ∷ first) h ∙ sym (long_same form plan line first h))

-- the plan behind all the lines, where one has begun
abbrev last : Form → Reading Planned → Planned
last form r = after_line form r.state r.line

plan_of_bytes : (form : Form) (r : Reading Planned) (bytes : List ℕ) → after_lines form r.state (onto r.line (lines_of bytes)) ≡ last form (After form r bytes)
plan_of_bytes form r [] = ap (after_line form r.state) (append-nil r.line)
plan_of_bytes form r (byte ∷ bytes) = elim (cases_Bool (byte == 10)) [
  | inl feed ↦
      ap (λ lines. after_lines form r.state (onto r.line lines)) (lines_of-feed byte bytes feed)
      ∙ ap (λ line. after_lines form (after_line form r.state line) (lines_of bytes)) (append-nil r.line)
      ∙ ap (after_lines form (after_line form r.state r.line)) (sym (lines_of-onto bytes))
      ∙ plan_of_bytes form (LineEnded form r) bytes
      ∙ ap (λ next. last form (After form next bytes)) (sym (step-feed form r byte feed))
  | inr inside ↦
      ap (λ lines. after_lines form r.state (onto r.line lines)) (lines_of-inside byte bytes inside)
      ∙ elim (cases_Bool (nat_lt KEPT_BYTES (length r.line))) [
        | inl long ↦
            long_skip form r.state r.line byte (lines_of bytes) (ltb-true KEPT_BYTES (length r.line) long) ∙ plan_of_bytes form r bytes
            ∙ ap (λ next. last form (After form next bytes)) (sym (step-long form r byte inside long))
        | inr short ↦
            ap (after_lines form r.state) (onto-onto_first r.line byte (lines_of bytes)) ∙ plan_of_bytes form (grown r byte) bytes
            ∙ ap (λ next. last form (After form next bytes)) (sym (step-short form r byte inside short))
      ]
]

-- the plan of a whole script
pub plan_of-read : (form : Form) (input : List ℕ) → last form (After form (beginning nothing) input) ≡ planned form (lines_of input)
plan_of-read form input = sym (plan_of_bytes form (beginning nothing) input) ∙ ap (after_lines form nothing) (lines_of-onto input)

-- bytes that come in two parts
pub plan-append : (form : Form) (r : Reading Planned) (xs ys : List ℕ) → After form r (xs ++ ys) ≡ After form (After form r xs) ys
plan-append form r [] ys = refl
plan-append form r (x ∷ xs) ys = plan-append form (Step form r x) xs ys

-- at the end nothing more was read
pub read_on : (unread left left' : Option (List ℕ)) (input : List ℕ) → Consumes unread left input → Consumes left left' [] → Consumes unread left' input
read_on unread left left' input read nothing_more = subst (Consumes unread left') (append-nil input) (Consumes-trans unread left left' input [] read nothing_more)

-- some bytes more were taken
pub plan_on : (form : Form) (notes later : Reading Planned) (input bytes : List ℕ) → notes ≡ After form (beginning nothing) input → later ≡ After form notes bytes
    → later ≡ After form (beginning nothing) (input ++ bytes)
plan_on form notes later input bytes is more = more ∙ ap (λ r. After form r bytes) is ∙ sym (plan-append form (beginning nothing) input bytes)
