-- The text of what a race answers.
use Rattle.std.specs.Prelude.{ℕ, ◌+◌, List, [], ◌∷◌, ◌++◌, Result, Ok, Err}
use Rattle.std.specs.List.{flat_map}
use Rattle.kv_keys.specs.declared.error.KvError.{KvError}
use Rattle.kv_model.specs.Answers.{Answer}
use Rattle.kv_script.specs.Answered.{taken_text}
use Rattle.kv_script.specs.declared.form.Form.{Form}
use Rattle.kv_script.specs.Text.{told_text, worker_refusal_text}

-- the line of a reply to the worker of a number
abbrev pub reply_text : ℕ → Result ℕ KvError → List ℕ
reply_text worker (Ok revision) = told_text worker revision
reply_text worker (Err error) = worker_refusal_text worker error

-- the lines of all replies to it, in order
abbrev pub replies_text : ℕ → List (Result ℕ KvError) → List ℕ
replies_text worker replies = flat_map (reply_text worker) replies

-- the lines of all that the watch of a number handed out, in order
abbrev pub seen_text : Form → ℕ → List Answer → List ℕ
seen_text form watch seen = flat_map (taken_text form watch) seen

-- the texts of lists, one after another, which are numbered from a number on
abbrev pub numbered : {X : Type 0} → (ℕ → List X → List ℕ) → ℕ → List (List X) → List ℕ
numbered {X} text number [] = []
numbered {X} text number (list ∷ lists) = text number list ++ numbered text (number + 1) lists

-- the replies worker by worker, and then the items watch by watch; both count from 1
abbrev pub report_text : Form → List (List (Result ℕ KvError)) → List (List Answer) → List ℕ
report_text form replies seen = numbered replies_text 1 replies ++ numbered (seen_text form) 1 seen
