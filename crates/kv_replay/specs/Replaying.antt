-- A whole replay under a configuration: its answer, and what it read and wrote.
use Rattle.std.specs.Prelude.{◌≡◌, ⊤, ℕ, List, Option, Result, Ok, IfErr, IsErrOf, OnOk}
use Rattle.std.specs.Io.{StartsWith}
use Rattle.kv_keys.specs.declared.error.KvError.{KvError}
use Rattle.kv_keys.specs.declared.error.KvError.TheVariants.{OutOfMemory, ReadFault, WriteFault}
use Rattle.kv_script.specs.declared.form.Form.{Form}
use Rattle.kv_replay.specs.Faults.{EndsRun, IsRunFault}
use Rattle.std.specs.Io.KnownBytes.{Appends, Consumes}
use Rattle.kv_model.specs.Acts.{Act, IsPrefix}
use Rattle.kv_model.specs.State.{State}
use Rattle.kv_single.specs.Held.{Bucketed, Represents}
use Rattle.kv_replay.specs.Outcome.{Replays, Breaks, Stops, StopsWhole}
use Rattle.kv_replay.specs.Sessions.{Session, script_text, state_behind, text_from, whole_from, whole_text}
use Rattle.kv_model.specs.Configuration.{Configuration, configure}

-- `unread` and `left` are the bytes that the source had and has, `held` and `holds` those of the sink, where they are
-- known
pub record Ran (form : Form) (config : Configuration) (unread left held holds : Option (List ℕ))
    (result : Result ⊤ KvError) : Type 0 where
  -- all was read, and its text was written
  pub ok : OnOk result (Replays (script_text form config) (whole_text form config) unread left held holds)
  -- the source failed, and the text of the lines that were whole by then was written
  pub read_fault : IsErrOf result ReadFault → Breaks (script_text form config) (whole_text form config) unread left
      held holds
  -- the sink failed, and a beginning of the text of what was read was written
  pub write_fault : IsErrOf result WriteFault → Stops (script_text form config) (whole_text form config) unread left
      held holds
  -- memory ran out, and whole lines of its beginning were written
  pub memory : IsErrOf result OutOfMemory → StopsWhole (script_text form config) (whole_text form config) unread left
      held holds
  -- a configuration that is not legal is answered by its refusal, and a legal one by no refusal of it
  pub legal : OnOk result (configure config ≡ Ok config)
  pub fault : IfErr result (λ e. EndsRun e (configure config))

-- The same of a run that begins in a session, on whatever it runs on.
pub record RanFrom (form : Form) (session : Session) (unread left held holds : Option (List ℕ))
    (result : Result ⊤ KvError) : Type 0 where
  pub ok : OnOk result (Replays (text_from form session) (whole_from form session) unread left held holds)
  pub read_fault : IsErrOf result ReadFault → Breaks (text_from form session) (whole_from form session) unread left
      held holds
  pub write_fault : IsErrOf result WriteFault → Stops (text_from form session) (whole_from form session) unread left
      held holds
  pub memory : IsErrOf result OutOfMemory → StopsWhole (text_from form session) (whole_from form session) unread left
      held holds
  pub fault : IfErr result IsRunFault

-- all was read, and the bucket is at the state that it leads to
pub record EndsAt (form : Form) (session : Session) (unread left : Option (List ℕ)) (bucket : Bucketed) : Type 0 where
  pub input : List ℕ
  pub read : Consumes unread left input
  pub stands : Represents (state_behind form session input) bucket

-- the bucket is at a state of these acts, however far its watches have come
abbrev pub HasActs : List Act → Bucketed → Type 0
HasActs acts bucket = (state : State) × (state.acts ≡ acts) × Represents state bucket

-- What was answered was done, however the run has ended: what was written is a beginning of the answers to some of what was read,
-- its beginning, and the bucket has the acts that this leads to.
pub record LeftAt (form : Form) (session : Session) (unread left held holds : Option (List ℕ)) (bucket : Bucketed) :
    Type 0 where
  pub input : List ℕ
  pub read : Consumes unread left input
  pub done : List ℕ
  pub first : IsPrefix done input
  pub acts : HasActs (state_behind form session done).acts bucket
  pub text : List ℕ
  pub begins : StartsWith (text_from form session done) text
  pub written : Appends held holds text
