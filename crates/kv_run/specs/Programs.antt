-- What a status of the program says: `unread` and `left` are the bytes that the reader had and has, `held` and `holds`
-- those of the writer, where they are known.
use Rattle.std.specs.Prelude.{◌≡◌, ◌≢◌, ◌⊎◌, ⊤, ℕ, List, [], ◌∷◌, ◌++◌, take, codes, Option, Some, None, Result, Ok, Err}
use Rattle.std.specs.Io.KnownBytes.{Appends}
use Rattle.clap.specs.Kinds.{IsAmong, Kinds}
use Rattle.clap.specs.declared.error.kind.ErrorKind.{ErrorKind}
use Rattle.clap.specs.declared.error.kind.ErrorKind.TheVariants.{DisplayHelp, DisplayVersion}
use Rattle.kv_keys.specs.Refusals.{name_of}
use Rattle.kv_keys.specs.declared.error.KvError.{KvError}
use Rattle.kv_keys.specs.declared.error.KvError.TheVariants.{OutOfMemory, BadBucket, BadConfig, ReadFault, WriteFault}
use Rattle.kv_race.specs.Openings.{may_race}
use Rattle.kv_script.specs.declared.form.Form.{Form}
use Rattle.kv_run.specs.Races.{RanRace}
use Rattle.kv_replay.specs.Replaying.{Ran}
use Rattle.kv_run.specs.declared.help.TheConstants.{HELP, VERSION}
use Rattle.kv_model.specs.Configuration.{Configuration, configure}

-- the status of a run that ended early
abbrev pub status_of : KvError → ℕ
status_of BadBucket = 2
status_of BadConfig = 2
status_of error = 1

-- what a configuration comes to, and in a race the number of workers too
abbrev pub checked : Option ℕ → Configuration → Result Configuration KvError
checked None config = configure config
checked (Some workers) config = may_race config workers 0

-- the line that tells why a run ended early
abbrev pub fault_text : KvError → List ℕ
fault_text error = codes "kvbucket: " ++ name_of error ++ 10 ∷ []

-- a whole run, of a script or of a race over it, where values stand in this form
abbrev pub RanAs : Form → Option ℕ → Configuration → (unread left held holds : Option (List ℕ)) → Result ⊤ KvError →
    Type 0
RanAs form None config unread left held holds result = Ran form config unread left held holds result
RanAs form (Some workers) config unread left held holds result = RanRace form config workers unread left held holds
    result

-- the words ask for help or for the version: this is the text
abbrev pub Shows : Kinds → List ℕ → Type 0
Shows kinds text = (IsAmong DisplayHelp kinds × (text ≡ HELP.now)) ⊎
    (IsAmong DisplayVersion kinds × (text ≡ VERSION.now))

-- something is wrong with the words
abbrev pub AreWrong : Kinds → Type 0
AreWrong kinds = (kind : ErrorKind) × (IsAmong kind kinds × ((kind ≢ DisplayHelp) × (kind ≢ DisplayVersion)))

-- a text was shown that the words ask for
abbrev pub IsShown : Kinds → (held holds : Option (List ℕ)) → Type 0
IsShown kinds held holds = (text : List ℕ) × (Shows kinds text × Appends held holds text)

-- the writer failed, and a beginning of such a text was shown
abbrev pub ShowingEnds : Kinds → (held holds : Option (List ℕ)) → KvError → Type 0
ShowingEnds kinds held holds error = (error ≡ WriteFault) ×
    ((text : List ℕ) × (Shows kinds text × ((n : ℕ) × Appends held holds (take n text))))

module _ (kinds : Kinds) (form : Form) (race : Option ℕ) (config : Configuration)
    (unread left held holds : Option (List ℕ)) where
  -- the script was run to its end, under a configuration that is legal
  abbrev pub IsRun : Type 0
  IsRun = (kinds ≡ []) × RanAs form race config unread left held holds (Ok tt)

  module _ (ReaderFailed WriterFailed : Type 0) where
    -- the run ended by this refusal, and did what that says; of a fault of a device that device is the cause
    abbrev pub RunEnds : KvError → Type 0
    RunEnds error =
        (kinds ≡ []) × ((RanAs form race config unread left held holds (Err error) × (status_of error ≡ 1))
        × ((error ≡ ReadFault → ReaderFailed) × (error ≡ WriteFault → WriterFailed)))

    -- why it ended early: the run ended, the writer failed while a text was shown, or memory ran out before anything
    -- was read or written
    abbrev pub EndsBy : KvError → Type 0
    EndsBy error =
        RunEnds error
        ⊎ ((ShowingEnds kinds held holds error × WriterFailed)
        ⊎ ((error ≡ OutOfMemory) × ((left ≡ unread) × (holds ≡ held))))

-- the configuration is refused, by this refusal
abbrev pub IsRefusedBy : Kinds → Option ℕ → Configuration → KvError → Type 0
IsRefusedBy kinds race config error = (kinds ≡ []) × (checked race config ≡ Err error)
