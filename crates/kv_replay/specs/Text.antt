-- The calls of a line and their answers, where values stand in lines and answers in one form.
use Rattle.std.specs.Prelude.{ℕ, suc, zero, Bool, true, false, if◌then◌else◌, List, [], ◌∷◌, Result, Ok, Err}
use Rattle.std.specs.List.{flat_map}
use Rattle.kv_keys.specs.Places.{fnv32_of}
use Rattle.kv_keys.specs.declared.error.KvError.{KvError}
use Rattle.kv_keys.specs.declared.error.KvError.TheVariants.{BadCommand}
use Rattle.kv_model.specs.Acceptance.{accept}
use Rattle.kv_model.specs.declared.call.Call.TheVariants as calls
use Rattle.kv_model.specs.Answers.{Answer, AnsweredEntry, Marker}
use Rattle.kv_model.specs.State.{State, after, after_write, answer_to, answer_write}
use Rattle.kv_script.specs.Answered.{answer_text, taken_text, ended_text}
use Rattle.kv_script.specs.Commands.{Meaning, Write, Get, GetAt, History, Watch, Take, Stop, Status, Seal, Compact, Place, Batch, is_skipped, line_command}
use Rattle.kv_script.specs.Commands as commands
use Rattle.kv_script.specs.Text.{place_text, refusal_text}
use Rattle.kv_script.specs.declared.form.Form.{Form}

-- one call of a line: its answer line, and the state after it
abbrev pub Step : Type 0
Step = List ℕ × State

-- a take goes on where it handed out an item
abbrev pub hands_out : Answer → Bool
hands_out (AnsweredEntry entry) = true
hands_out Marker = true
hands_out answer = false

-- a take of so many items, up to the first that hands out none
unfoldable pub takes : Form → ℕ → ℕ → State → List Step
takes form watch zero s = []
takes form watch (suc n) s =
    let answer = answer_to s (calls.Take watch) in
    let next = after s (calls.Take watch) in
    (taken_text form watch answer, next) ∷ (if hands_out answer then takes form watch n next else [])

-- one call, as a step
abbrev pub once : List ℕ → State → List Step
once text next = (text, next) ∷ []

-- the calls of a command, in order
abbrev pub steps : Form → State → Meaning → List Step
steps form s (Write asked) =
    let outcome = accept s.config asked s.acts in
    once (answer_text form s.config.bucket (answer_write outcome)) (after_write s outcome)
steps form s (Get key) = once (answer_text form s.config.bucket (answer_to s (calls.Get key))) s
steps form s (GetAt key revision) = once (answer_text form s.config.bucket (answer_to s (calls.GetAt key revision))) s
steps form s (History key) = once (answer_text form s.config.bucket (answer_to s (calls.History key))) s
steps form s (commands.Keys filters) = once (answer_text form s.config.bucket (answer_to s (calls.Keys filters))) s
steps form s (Watch filters options) =
    once (answer_text form s.config.bucket (answer_to s (calls.Watch filters options)))
    (after s (calls.Watch filters options))
steps form s (Take watch count) = takes form watch count s
steps form s (Stop watch) = once (ended_text watch (answer_to s (calls.Stop watch))) (after s (calls.Stop watch))
steps form s Status = once (answer_text form s.config.bucket (answer_to s calls.Status)) s
steps form s Seal = once (answer_text form s.config.bucket (answer_to s calls.Seal)) (after s calls.Seal)
steps form s (Compact floor) = once (answer_text form s.config.bucket (answer_to s (calls.Compact floor)))
    (after s (calls.Compact floor))
steps form s (Place key) = once (place_text (fnv32_of key)) s
-- one line alone has no lines of a batch behind it
steps form s (Batch count) = once (refusal_text BadCommand) s

-- a refused line is answered by its refusal
abbrev pub steps_of : Form → State → Result Meaning KvError → List Step
steps_of form s (Ok meaning) = steps form s meaning
steps_of form s (Err error) = once (refusal_text error) s

-- the calls of a line without its end; a skipped line makes none
unfoldable pub line_steps : Form → State → List ℕ → List Step
line_steps form s line = if is_skipped line then [] else steps_of form s (line_command form line)

-- the answer lines of calls
abbrev pub steps_text : List Step → List ℕ
steps_text steps = flat_map (λ step. step.0) steps

-- the state after calls
abbrev pub steps_next : State → List Step → State
steps_next s [] = s
steps_next s (step ∷ steps) = steps_next step.1 steps
