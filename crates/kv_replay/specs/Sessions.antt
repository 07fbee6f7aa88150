-- The text of a whole script. Each line is read and answered in the session that the lines before it left: the state of
-- the bucket, and the batch that has begun, if one has. The lines of a batch are answered together, behind the last.
use Rattle.std.specs.Prelude.{ℕ, ◌-◌, ◌==◌, if◌then◌else◌, List, [], ◌∷◌, ◌++◌, Option, Some, None, Result, Ok, Err}
use Rattle.std.specs.Io.BufRead.{strip_last}
use Rattle.kv_keys.specs.declared.error.KvError.{KvError}
use Rattle.kv_keys.specs.declared.error.KvError.TheVariants.{BadCommand}
use Rattle.kv_model.specs.Batches.{after_batch}
use Rattle.kv_model.specs.Configuration.{Configuration}
use Rattle.kv_model.specs.State.{State, empty}
use Rattle.kv_script.specs.Commands.{Meaning, Batch, is_skipped, line_command, line_write}
use Rattle.kv_script.specs.declared.form.Form.{Form}
use Rattle.kv_replay.specs.Batches.{Asks, all_asked, outcome, outcome_text}
use Rattle.kv_replay.specs.Lines.{behind, lines_of, but_last, texts}
use Rattle.kv_replay.specs.Text.{Step, steps_of, steps_text, steps_next}

-- a batch that has begun: how many of its lines are still to come, and what each of those that came asks for
pub record Begun : Type 0 where
  pub awaited : ℕ
  pub asks : Asks

pub record Session : Type 0 where
  pub state : State
  pub batch : Option Begun

-- no batch has begun
abbrev pub outside : State → Session
outside s = record { state = s; batch = None }

-- before the first line
abbrev pub fresh : Configuration → Session
fresh config = outside (empty config)

-- the text that answers a line, and the session behind it
abbrev pub Turn : Type 0
Turn = List ℕ × Session

-- the calls of a line outside a batch
abbrev pub made : State → List Step → Turn
made s steps = (steps_text steps, outside (steps_next s steps))

-- a batch ends: what all its lines ask for is done and answered
abbrev pub batch_ends : State → Asks → Turn
batch_ends s asks = (outcome_text (outcome s (all_asked asks)), outside (after_batch s (outcome s (all_asked asks))))

-- it ends behind its last line, and until then nothing is answered and nothing done
abbrev pub batch_goes_on : State → ℕ → Asks → Turn
batch_goes_on s awaited asks =
    if awaited == 0 then batch_ends s asks
    else ([], record { state = s; batch = Some (record { awaited = awaited; asks = asks }) })

-- how many lines a command is about that begins a batch
abbrev pub batch_size : Result Meaning KvError → Option ℕ
batch_size (Ok (Batch count)) = Some count
batch_size command = None

-- a line outside a batch may begin one
abbrev pub begins : Form → State → Result Meaning KvError → Option ℕ → Turn
begins form s command None = made s (steps_of form s command)
begins form s command (Some count) = batch_goes_on s count []

-- a line that is not skipped: in a batch it counts as one of its lines, whatever it is
abbrev pub counted_turn : Form → State → Option Begun → List ℕ → Turn
counted_turn form s None line = begins form s (line_command form line) (batch_size (line_command form line))
counted_turn form s (Some begun) line =
    batch_goes_on s (begun.awaited - 1) (begun.asks ++ line_write form line ∷ [])

-- a line without its end; a skipped one counts nowhere
unfoldable pub turn : Form → Session → List ℕ → Turn
turn form session line =
    if is_skipped line then ([], session) else counted_turn form session.state session.batch line

-- one carriage return at the end of a line is dropped
unfoldable pub line_text : Form → Session → List ℕ → List ℕ
line_text form session line = (turn form session (strip_last 13 line)).0

unfoldable pub line_next : Form → Session → List ℕ → Session
line_next form session line = (turn form session (strip_last 13 line)).1

-- the end of the input ends a batch whose next line is missing: that asks for nothing, so the batch is refused
abbrev pub missing_text : State → Option Begun → List ℕ
missing_text s None = []
missing_text s (Some begun) = outcome_text (outcome s (all_asked (begun.asks ++ Err BadCommand ∷ [])))

unfoldable pub end_text : Session → List ℕ
end_text session = missing_text session.state session.batch

-- what is written for a script that begins in a session
abbrev pub text_from : Form → Session → List ℕ → List ℕ
text_from form session input = texts (line_text form) (line_next form) end_text session (lines_of input)

-- what is written for its lines that a line feed ends, where the input breaks off
abbrev pub whole_from : Form → Session → List ℕ → List ℕ
whole_from form session input =
    texts (line_text form) (line_next form) (λ session. []) session (but_last (lines_of input))

-- the state that it leads to: a batch whose lines are not all there is refused
abbrev pub state_behind : Form → Session → List ℕ → State
state_behind form session input = (behind (line_next form) session (lines_of input)).state

-- what is written for a script on a new bucket
abbrev pub script_text : Form → Configuration → List ℕ → List ℕ
script_text form config input = text_from form (fresh config) input

abbrev pub whole_text : Form → Configuration → List ℕ → List ℕ
whole_text form config input = whole_from form (fresh config) input
