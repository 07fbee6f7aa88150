-- Of the turns of a session: each says whole lines, and of a line that is too long only the beginning counts.
use Rattle.std.proofs.Common.{◌≡◌, ℕ, ◌<◌, ◌+◌, ◌-◌, ◌==◌, Bool, true, false, cond, codes, decimal, map, List, [], ◌∷◌, ◌++◌, length, length-append, Option, Some, None, Result, Ok, Err, refl, sym, ap, ◌∙◌, arith}
use Rattle.std.specs.Io.BufRead.{strip_last}
use Rattle.kv_keys.specs.declared.error.KvError.{KvError}
use Rattle.kv_keys.specs.declared.error.KvError.TheVariants.{BadCommand}
use Rattle.kv_model.specs.Acts.{Write}
use Rattle.kv_model.specs.Requests.{Asked}
use Rattle.kv_model.specs.State.{State}
use Rattle.kv_model.specs.declared.batch.BatchRefused.{BatchRefused}
use Rattle.kv_script.specs.Commands.{Meaning, is_skipped, line_command, line_write, names_write}
use Rattle.kv_script.specs.declared.form.Form.{Form}
use Rattle.kv_script.specs.Line.{object_text, array_text}
use Rattle.kv_script.specs.Text.{one, refusal_members, revisions_text, batch_refusal_text}
use Rattle.kv_replay.specs.Batches.{Asks, all_asked, outcome, outcome_text}
use Rattle.kv_replay.specs.Outcome.{IsWholeLines}
use Rattle.kv_replay.specs.Sessions.{Begun, Session, Turn, batch_ends, batch_goes_on, batch_size, begins, counted_turn, line_next, line_text, turn}
use Rattle.kv_replay.specs.Text.{steps_of}
use Rattle.kv_replay.specs.declared.lines.TheConstants.{KEPT_BYTES}
use Rattle.kv_replay.proofs.Texts.{ends, outcome_whole, long_command, skipped_more, skipped_strip, steps_text-whole, strip_length}
use Rattle.kv_replay.proofs.WholeLines.{IsWholeLines-nil}

-- ---- what a turn says

batch_whole : (o : Result (List Write) BatchRefused) → IsWholeLines (outcome_text o)
unfolding revisions_text batch_refusal_text
batch_whole (Ok ws) = ends (object_text (one (codes "revisions") (array_text (map decimal (map (λ (w : Write). w.revision) ws)))))
batch_whole (Err refused) = ends (object_text ((codes "at", decimal (refused.at + 1)) ∷ refusal_members refused.error []))

goes_on_whole : (s : State) (awaited : ℕ) (asks : Asks) → IsWholeLines (batch_goes_on s awaited asks).0
goes_on_whole s awaited asks = by_count (awaited == 0)
  where
    waiting : Turn
    waiting = ([], record { state = s; batch = Some (record { awaited = awaited; asks = asks }) })

    by_count : (all : Bool) → IsWholeLines (cond all (batch_ends s asks) waiting).0
    by_count true = batch_whole (outcome s (all_asked asks))
    by_count false = IsWholeLines-nil

begins_whole : (form : Form) (s : State) (command : Result Meaning KvError) (size : Option ℕ) → IsWholeLines (begins form s command size).0
begins_whole form s command None = steps_text-whole (steps_of form s command) (outcome_whole form s command)
begins_whole form s command (Some count) = goes_on_whole s count []

counted_whole : (form : Form) (s : State) (batch : Option Begun) (line : List ℕ) → IsWholeLines (counted_turn form s batch line).0
counted_whole form s None line = begins_whole form s (line_command form line) (batch_size (line_command form line))
counted_whole form s (Some begun) line = goes_on_whole s (begun.awaited - 1) (begun.asks ++ line_write form line ∷ [])

turn_whole : (form : Form) (session : Session) (line : List ℕ) → IsWholeLines (turn form session line).0
unfolding turn
turn_whole form session line = by_first (is_skipped line)
  where
    by_first : (skips : Bool) → IsWholeLines (cond skips ([], session) (counted_turn form session.state session.batch line)).0
    by_first true = IsWholeLines-nil
    by_first false = counted_whole form session.state session.batch line

-- the text of a line is of whole lines
pub line_text-whole : (form : Form) (session : Session) (line : List ℕ) → IsWholeLines (line_text form session line)
unfolding line_text
line_text-whole form session line = turn_whole form session (strip_last 13 line)

-- ---- a line that is too long

-- one that is no command
abbrev no_command : Form → State → Option Begun → Turn
no_command form s None = begins form s (Err BadCommand) None
no_command form s (Some begun) = batch_goes_on s (begun.awaited - 1) (begun.asks ++ Err BadCommand ∷ [])

abbrev bad : Result Asked KvError
bad = Err BadCommand

long_write : (form : Form) (line : List ℕ) → line_command form line ≡ Err BadCommand → line_write form line ≡ Err BadCommand
unfolding line_write
long_write form line is = rw is (either (names_write line))
  where
    either : (names : Bool) → cond names bad bad ≡ bad
    either true = refl
    either false = refl

long_counts : (form : Form) (s : State) (batch : Option Begun) (line : List ℕ) → line_command form line ≡ Err BadCommand → counted_turn form s batch line ≡ no_command form s batch
long_counts form s None line is = ap (λ command. begins form s command (batch_size command)) is
long_counts form s (Some begun) line is = ap (λ ask. batch_goes_on s (begun.awaited - 1) (begun.asks ++ ask ∷ [])) (long_write form line is)

-- of a line that is too long only the first byte counts
long_turn : (form : Form) (session : Session) (line : List ℕ) → KEPT_BYTES < length line → turn form session (strip_last 13 line) ≡ cond (is_skipped line) ([], session) (no_command form session.state session.batch)
unfolding turn
long_turn form session line h =
    let stripped : 1400000 < length (strip_last 13 line) = omega (arith, strip_length line) in
    ap (λ skips. cond skips ([], session) (counted_turn form session.state session.batch (strip_last 13 line))) (skipped_strip line (omega arith))
    ∙ ap (cond (is_skipped line) ([], session)) (long_counts form session.state session.batch (strip_last 13 line) (long_command form (strip_last 13 line) stripped))

long_same : (form : Form) (session : Session) (line more : List ℕ) → KEPT_BYTES < length line → turn form session (strip_last 13 (line ++ more)) ≡ turn form session (strip_last 13 line)
long_same form session line more h =
    long_turn form session (line ++ more) (omega (arith, length-append line more))
    ∙ ap (λ skips. cond skips ([], session) (no_command form session.state session.batch)) (skipped_more line more (omega arith))
    ∙ sym (long_turn form session line h)

-- what follows a line that is too long changes nothing
pub line_text-long : (form : Form) (session : Session) (line more : List ℕ) → KEPT_BYTES < length line → line_text form session (line ++ more) ≡ line_text form session line
unfolding line_text
line_text-long form session line more h = ap (λ (t : Turn). t.0) (long_same form session line more h)

pub line_next-long : (form : Form) (session : Session) (line more : List ℕ) → KEPT_BYTES < length line → line_next form session (line ++ more) ≡ line_next form session line
unfolding line_next
line_next-long form session line more h = ap (λ (t : Turn). t.1) (long_same form session line more h)
