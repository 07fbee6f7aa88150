-- What a race over a script did: `unread` and `left` are the bytes that the source had and has, `held` and `holds`
-- those of the sink, where they are known.
use Rattle.std.specs.Prelude.{◌≡◌, ◌⊎◌, ⊤, ℕ, List, [], ◌++◌, Option, Result, Ok, Err, IsOk, OnOk, OnErr, IfErr, IsErrOf}
use Rattle.std.specs.Io.{StartsWith}
use Rattle.std.specs.Io.KnownBytes.{Appends, Consumes, IsAtEnd}
use Rattle.kv_model.specs.Answers.{Answer}
use Rattle.kv_keys.specs.declared.error.KvError.{KvError}
use Rattle.kv_keys.specs.declared.error.KvError.TheVariants.{OutOfMemory, BadBucket, BadConfig, NoReader, ReadFault, WriteFault}
use Rattle.kv_race.specs.Openings.{may_race}
use Rattle.kv_race.specs.Racing.{IsRaced}
use Rattle.kv_run.specs.Dealing.{dealt}
use Rattle.kv_run.specs.Planning.{Planned, planned}
use Rattle.kv_run.specs.Reporting.{report_text}
use Rattle.kv_script.specs.declared.form.Form.{Form}
use Rattle.kv_replay.specs.Lines.{lines_of}
use Rattle.kv_model.specs.Configuration.{Configuration}
use Rattle.kv_store.specs.Stored.{Stored}

-- while a script is read, no line is answered
abbrev pub no_text : Planned → List ℕ → List ℕ
no_text plan line = []

-- what the bytes of a script ask for
abbrev pub plan_of : Form → List ℕ → Planned
plan_of form input = planned form (lines_of input)

-- a text of a plan: the answers to its refused lines, and then what a race of its dealt requests and its watches
-- answered
pub record IsTextOf (form : Form) (config : Configuration) (workers : ℕ) (plan : Planned) (text : List ℕ) : Type 0 where
  pub replies : List (List (Result ℕ KvError))
  pub seen : List (List Answer)
  pub version : Stored
  pub raced : IsRaced config (dealt workers plan.requests) plan.watches replies seen version
  pub is : text ≡ plan.refused ++ report_text form replies seen

-- a beginning of the answers to the refused lines, or of a text of the plan
abbrev pub BeginsText : Form → Configuration → ℕ → Planned → List ℕ → Type 0
BeginsText form config workers plan text =
    StartsWith plan.refused text ⊎ ((whole : List ℕ) ×
    (IsTextOf form config workers plan whole × StartsWith whole text))

module _ (form : Form) (config : Configuration) (workers : ℕ) (unread left held holds : Option (List ℕ)) where
  -- all was read, and a text of its plan was written
  pub record Races : Type 0 where
    pub input : List ℕ
    pub read : Consumes unread left input
    pub complete : IsAtEnd left
    pub text : List ℕ
    pub answers : IsTextOf form config workers (plan_of form input) text
    pub written : Appends held holds text

  -- some was read, and nothing was written
  pub record StaysSilent : Type 0 where
    pub input : List ℕ
    pub read : Consumes unread left input
    pub written : Appends held holds []

  -- nothing was written, or all was read and a beginning of a text of its plan was written
  pub record StopsRace : Type 0 where
    pub input : List ℕ
    pub read : Consumes unread left input
    pub text : List ℕ
    pub complete : (text ≡ []) ⊎ IsAtEnd left
    pub begins : BeginsText form config workers (plan_of form input) text
    pub written : Appends held holds text

-- why a race ends early where this is what its configuration and its number of workers come to: their refusal, and
-- nothing else, where they are not legal; else want of memory, a store that let no reader enter, or a device that
-- failed
abbrev pub EndsRace : {X : Type 0} → KvError → Result X KvError → Type 0
EndsRace {X} OutOfMemory outcome = IsOk outcome
EndsRace {X} BadBucket outcome = outcome ≡ Err BadBucket
EndsRace {X} BadConfig outcome = outcome ≡ Err BadConfig
EndsRace {X} NoReader outcome = IsOk outcome
EndsRace {X} ReadFault outcome = IsOk outcome
EndsRace {X} WriteFault outcome = IsOk outcome
EndsRace {X} error outcome = ⊥

-- a whole race over a script: its answer, and what it read and wrote
pub record RanRace (form : Form) (config : Configuration) (workers : ℕ) (unread left held holds : Option (List ℕ))
    (result : Result ⊤ KvError) : Type 0 where
  -- all was read, and a text of its plan was written
  pub ok : OnOk result (Races form config workers unread left held holds)
  -- the source failed, and nothing was written
  pub read_fault : IsErrOf result ReadFault → StaysSilent form config workers unread left held holds
  -- it ended early, and a beginning of a text was written
  pub early : OnErr result (StopsRace form config workers unread left held holds)
  -- what is not legal is answered by its refusal, and what is legal by no refusal of it
  pub legal : OnOk result (may_race config workers 0 ≡ Ok config)
  pub fault : IfErr result (λ e. EndsRace e (may_race config workers 0))
