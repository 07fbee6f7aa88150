-- Of the text of a line.
use Rattle.std.proofs.Common.{◌≡◌, ℕ, suc, zero, ◌<◌, ◌≤◌, ◌+◌, ◌-◌, nat_le, Bool, true, false, cond, codes, decimal, map, List, [], ◌∷◌, ◌++◌, ◌&&◌, length, length-take-le, take, Result, Ok, Err, refl, ap, ◌∙◌, inr, arith}
use Rattle.std.proofs.lemmas.Bool.Decides.{nat_tests}
use Rattle.std.specs.Io.BufRead.{strip_last, ends_with_byte}
use Rattle.std.specs.Str.{is_utf8}
use Rattle.json.specs.Print.{quoted}
use Rattle.kv_keys.specs.Places.{fnv32_of}
use Rattle.kv_keys.specs.declared.error.KvError.{KvError}
use Rattle.kv_keys.specs.declared.error.KvError.TheVariants.{BadCommand}
use Rattle.kv_model.specs.Acceptance.{accept}
use Rattle.kv_model.specs.Answers.{Answer, Revision, Sealed, AnsweredEntry, Entries, Keys, Numbers, Watching, Marker, Empty, Ended, Compacted, Refused}
use Rattle.kv_model.specs.State.{State, after, answer_to, answer_write}
use Rattle.kv_model.specs.declared.call.Call.TheVariants as calls
use Rattle.kv_script.specs.Answered.{answer_text, taken_text, ended_text}
use Rattle.kv_script.specs.Commands.{Meaning, Write, Get, GetAt, History, Watch, Take, Stop, Status, Seal, Compact, Place, Batch, is_skipped, is_within_limits, line_command}
use Rattle.kv_script.specs.Commands as commands
use Rattle.kv_script.specs.declared.form.Form.{Form}
use Rattle.kv_script.specs.Line.{object_text, array_text}
use Rattle.kv_script.specs.Text.{one, entry_members, listed_text, watch_members, status_members, refusal_members, place_digits, revision_text, sealed_text, entry_text, history_text, keys_text, watch_text, taken_entry_text, marker_text, empty_text, stopped_text, compacted_text, status_text, refusal_text, place_text}
use Rattle.kv_replay.specs.Outcome.{IsWholeLines}
use Rattle.kv_replay.specs.Text.{Step, hands_out, takes, steps, steps_of, line_steps, steps_text}
use Rattle.kv_replay.proofs.WholeLines.{IsWholeLines-nil, IsWholeLines-append}

-- ---- each answer line is whole

-- a line of JSON
pub ends : (text : List ℕ) → IsWholeLines (text ++ 10 ∷ [])
ends text = inr (text, refl)

refusal_whole : (error : KvError) → IsWholeLines (refusal_text error)
unfolding refusal_text
refusal_whole error = ends (object_text (refusal_members error []))

place_whole : (place : ℕ) → IsWholeLines (place_text place)
unfolding place_text
place_whole place = ends (object_text (one (codes "place") (quoted (place_digits place))))

answer_whole : (form : Form) (bucket : List ℕ) (answer : Answer) → IsWholeLines (answer_text form bucket answer)
unfolding revision_text sealed_text entry_text history_text keys_text watch_text compacted_text status_text
answer_whole form bucket (Revision revision) = ends (object_text (one (codes "revision") (decimal revision)))
answer_whole form bucket Sealed = ends (object_text (one (codes "sealed") (codes "true")))
answer_whole form bucket (AnsweredEntry entry) = ends (object_text (entry_members form entry []))
answer_whole form bucket (Entries entries) = ends (object_text (one (codes "entries") (array_text (map (listed_text form) entries))))
answer_whole form bucket (Keys keys) = ends (object_text (one (codes "keys") (array_text (map quoted keys))))
answer_whole form bucket (Numbers status watches) = ends (object_text (status_members bucket status watches))
answer_whole form bucket (Watching number) = ends (object_text (watch_members number))
answer_whole form bucket Marker = IsWholeLines-nil
answer_whole form bucket Empty = IsWholeLines-nil
answer_whole form bucket (Ended handed) = IsWholeLines-nil
answer_whole form bucket (Compacted floor) = ends (object_text (one (codes "compacted") (decimal floor)))
answer_whole form bucket (Refused error) = refusal_whole error

pub taken_whole : (form : Form) (watch : ℕ) (answer : Answer) → IsWholeLines (taken_text form watch answer)
unfolding taken_entry_text marker_text empty_text
taken_whole form watch (AnsweredEntry entry) = ends (object_text (entry_members form entry (watch_members watch)))
taken_whole form watch Marker = ends (object_text ((codes "marker", codes "true") ∷ watch_members watch))
taken_whole form watch Empty = ends (object_text ((codes "empty", codes "true") ∷ watch_members watch))
taken_whole form watch (Refused error) = refusal_whole error
taken_whole form watch (Revision revision) = IsWholeLines-nil
taken_whole form watch Sealed = IsWholeLines-nil
taken_whole form watch (Entries entries) = IsWholeLines-nil
taken_whole form watch (Keys keys) = IsWholeLines-nil
taken_whole form watch (Numbers status watches) = IsWholeLines-nil
taken_whole form watch (Watching number) = IsWholeLines-nil
taken_whole form watch (Ended handed) = IsWholeLines-nil
taken_whole form watch (Compacted floor) = IsWholeLines-nil

ended_whole : (watch : ℕ) (answer : Answer) → IsWholeLines (ended_text watch answer)
unfolding stopped_text
ended_whole watch (Ended handed) = ends (object_text ((codes "handed", decimal handed) ∷ one (codes "stopped") (decimal watch)))
ended_whole watch (Refused error) = refusal_whole error
ended_whole watch Marker = IsWholeLines-nil
ended_whole watch Empty = IsWholeLines-nil
ended_whole watch (AnsweredEntry entry) = IsWholeLines-nil
ended_whole watch (Revision revision) = IsWholeLines-nil
ended_whole watch Sealed = IsWholeLines-nil
ended_whole watch (Entries entries) = IsWholeLines-nil
ended_whole watch (Keys keys) = IsWholeLines-nil
ended_whole watch (Numbers status watches) = IsWholeLines-nil
ended_whole watch (Watching number) = IsWholeLines-nil
ended_whole watch (Compacted floor) = IsWholeLines-nil

-- ---- and so are those of the calls of a line

-- each step's text is whole
abbrev pub AreWhole : List Step → Type 0
AreWhole [] = Unit {0}
AreWhole (step ∷ steps) = IsWholeLines step.0 × AreWhole steps

takes_whole : (form : Form) (watch n : ℕ) (s : State) → AreWhole (takes form watch n s)
unfolding takes
takes_whole form watch zero s = tt
takes_whole form watch (suc n) s = (taken_whole form watch (answer_to s (calls.Take watch)), more (hands_out (answer_to s (calls.Take watch))) (takes_whole form watch n (after s (calls.Take watch))))
  where
    more : (goes_on : Bool) → AreWhole (takes form watch n (after s (calls.Take watch))) → AreWhole (cond goes_on (takes form watch n (after s (calls.Take watch))) [])
    more true rest = rest
    more false rest = tt

pub steps_whole : (form : Form) (s : State) (meaning : Meaning) → AreWhole (steps form s meaning)
steps_whole form s (Write asked) = (answer_whole form s.config.bucket (answer_write (accept s.config asked s.acts)), tt)
steps_whole form s (Get key) = (answer_whole form s.config.bucket (answer_to s (calls.Get key)), tt)
steps_whole form s (GetAt key revision) = (answer_whole form s.config.bucket (answer_to s (calls.GetAt key revision)), tt)
steps_whole form s (History key) = (answer_whole form s.config.bucket (answer_to s (calls.History key)), tt)
steps_whole form s (commands.Keys filters) = (answer_whole form s.config.bucket (answer_to s (calls.Keys filters)), tt)
steps_whole form s (Watch filters options) = (answer_whole form s.config.bucket (answer_to s (calls.Watch filters options)), tt)
steps_whole form s (Take watch count) = takes_whole form watch count s
steps_whole form s (Stop watch) = (ended_whole watch (answer_to s (calls.Stop watch)), tt)
steps_whole form s Status = (answer_whole form s.config.bucket (answer_to s calls.Status), tt)
steps_whole form s Seal = (answer_whole form s.config.bucket (answer_to s calls.Seal), tt)
steps_whole form s (Compact floor) = (answer_whole form s.config.bucket (answer_to s (calls.Compact floor)), tt)
steps_whole form s (Place key) = (place_whole (fnv32_of key), tt)
steps_whole form s (Batch count) = (refusal_whole BadCommand, tt)

pub outcome_whole : (form : Form) (s : State) (outcome : Result Meaning KvError) → AreWhole (steps_of form s outcome)
outcome_whole form s (Ok meaning) = steps_whole form s meaning
outcome_whole form s (Err error) = (refusal_whole error, tt)

unless_skipped : (form : Form) (s : State) (outcome : Result Meaning KvError) (skips : Bool) → AreWhole (cond skips [] (steps_of form s outcome))
unless_skipped form s outcome true = tt
unless_skipped form s outcome false = outcome_whole form s outcome

pub line_steps-whole : (form : Form) (s : State) (line : List ℕ) → AreWhole (line_steps form s line)
unfolding line_steps
line_steps-whole form s line = unless_skipped form s (line_command form line) (is_skipped line)

-- the text of whole steps
pub steps_text-whole : (steps : List Step) → AreWhole steps → IsWholeLines (steps_text steps)
steps_text-whole [] whole = IsWholeLines-nil
steps_text-whole (step ∷ steps) (first, rest) = IsWholeLines-append step.0 (steps_text steps) first (steps_text-whole steps rest)

-- ---- a line that is too long

-- at most one byte is dropped
pub strip_length : (line : List ℕ) → length line ≤ length (strip_last 13 line) + 1
strip_length line = by_end (ends_with_byte 13 line)
  where
    by_end : (returns : Bool) → length line ≤ length (cond returns (take (length line - 1) line) line) + 1
    by_end true = omega (arith, length-take-le (length line - 1) line (omega arith))
    by_end false = omega arith

and_false : (b : Bool) → (b && false) ≡ false
and_false true = refl
and_false false = refl

-- a line of more bytes than a command has is within no limits
too_long : (line : List ℕ) → 1400000 < length line → is_within_limits line ≡ false
too_long line h = rw (not_le line h) (and_false (is_utf8 line))
  where
    not_le : (line : List ℕ) → 1400000 < length line → nat_le (length line) 1400000 ≡ false
    not_le line h = grind (arith, nat_tests)

pub long_command : (form : Form) (line : List ℕ) → 1400000 < length line → line_command form line ≡ Err BadCommand
unfolding line_command
long_command form line h = rw (too_long line h) refl

-- the first byte of a longer line is that of its beginning
pub skipped_more : (line more : List ℕ) → 0 < length line → is_skipped (line ++ more) ≡ is_skipped line
skipped_more [] more h = absurd (omega arith)
skipped_more (byte ∷ line) more h = refl

skipped_take : (n : ℕ) (line : List ℕ) → is_skipped (take (suc n) line) ≡ is_skipped line
skipped_take n [] = refl
skipped_take n (byte ∷ line) = refl

shorter : (n : ℕ) → 1 < n → n - 1 ≡ suc (n - 2)
shorter n h = omega arith

-- with at least two bytes, a carriage return at the end says nothing of the first
pub skipped_strip : (line : List ℕ) → 1 < length line → is_skipped (strip_last 13 line) ≡ is_skipped line
skipped_strip line h = by_end (ends_with_byte 13 line)
  where
    by_end : (returns : Bool) → is_skipped (cond returns (take (length line - 1) line) line) ≡ is_skipped line
    by_end true = ap (λ n. is_skipped (take n line)) (shorter (length line) h) ∙ skipped_take (length line - 2) line
    by_end false = refl
