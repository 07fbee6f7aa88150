-- What words that speak of a file come to: `unread` and `left` are the bytes that the reader had and has, `held` and `holds` those
-- of the writer, where they are known.
use Rattle.std.specs.Prelude.{◌≡◌, ◌⊎◌, ⊤, ℕ, List, Option, Some, None, Err}
use Rattle.std.specs.Io.{StartsWith}
use Rattle.std.specs.Io.KnownBytes.{Appends}
use Rattle.clap.specs.Walk.{Text}
use Rattle.kv_keys.specs.declared.error.KvError.{KvError}
use Rattle.kv_keys.specs.declared.error.KvError.TheVariants.{OutOfMemory, ReadFault, WriteFault}
use Rattle.kv_model.specs.Acceptance.{IsLawful}
use Rattle.kv_model.specs.Acts.{Act}
use Rattle.kv_model.specs.Configuration.{Configuration, IsLegal, configure}
use Rattle.kv_script.specs.declared.form.Form.{Form}
use Rattle.kv_replay.specs.Outcome.{Replays}
use Rattle.kv_replay.specs.Sessions.{outside, text_from, whole_from}
use Rattle.kv_durable.specs.Durables.{state_of}
use Rattle.kv_durable.specs.declared.error.DurableError.{DurableError}
use Rattle.kv_durable.specs.declared.error.DurableError.TheVariants.{FileBusy, FileDamaged, FileFault, OtherBucket, Refused}
use Rattle.kv_durable_script.specs.Runs as runs
use Rattle.kv_durable_script.specs.Scripts.{CanBeScript}
use Rattle.kv_run.specs.Arguments.{Wanted}
use Rattle.kv_run.specs.Programs.{fault_text}

-- the script was run to its end on the bucket of some lawful acts, with no watch, and its text was written
abbrev pub IsRunOn : Form → Configuration → (unread left held holds : Option (List ℕ)) → Type 0
IsRunOn form config unread left held holds = IsLegal config × (acts : List Act) × IsLawful config acts
    × Replays (text_from form (outside (state_of config acts))) (whole_from form (outside (state_of config acts))) unread left held holds

-- a text was written that can be the script of a file of this configuration
abbrev pub IsDumped : Configuration → (held holds : Option (List ℕ)) → Type 0
IsDumped config held holds = IsLegal config × (text : List ℕ) × CanBeScript config text × Appends held holds text

-- why nothing was begun on a file: memory ran out; or the configuration is refused; or it is legal, and the file is refused
abbrev pub IsUnbegun : Configuration → DurableError → Type 0
IsUnbegun config (Refused OutOfMemory) = ⊤
IsUnbegun config (Refused error) = configure config ≡ Err error
IsUnbegun config FileFault = IsLegal config
IsUnbegun config (FileDamaged at) = IsLegal config
IsUnbegun config FileBusy = IsLegal config
IsUnbegun config OtherBucket = IsLegal config

-- the run ended early on the bucket of some lawful acts; a fault of a device is that device's
abbrev pub RunEndsBy : Form → Configuration → (unread left held holds : Option (List ℕ)) → (ReaderFailed WriterFailed : Type 0) → DurableError → Type 0
RunEndsBy form config unread left held holds ReaderFailed WriterFailed error =
    (IsLegal config × (acts : List Act) × IsLawful config acts × runs.EndsBy form (outside (state_of config acts)) unread left held holds error)
    × ((error ≡ Refused ReadFault → ReaderFailed) × (error ≡ Refused WriteFault → WriterFailed))

-- the dump ended early, for want of memory or by a fault of its writer: a beginning was written of a text that can be the script
-- of a file of this configuration
abbrev pub DumpEndsBy : Configuration → (held holds : Option (List ℕ)) → (WriterFailed : Type 0) → DurableError → Type 0
DumpEndsBy config held holds WriterFailed error =
    (IsLegal config × (script text : List ℕ) × CanBeScript config script × StartsWith script text × Appends held holds text)
    × ((error ≡ Refused OutOfMemory) ⊎ ((error ≡ Refused WriteFault) × WriterFailed))

-- Why words that speak of a file did not come to their end, and what was told of it: nothing was begun, and the error was told
-- alone; or the run on the file ended early, and it was told behind the line on the file's torn end, if it has one; or the dump
-- did, and it was told alone.
module _ (wanted : Wanted) (unread left held holds : Option (List ℕ)) (Same ReaderFailed WriterFailed Alone Behind : Type 0) where
  abbrev pub EndsOnFile : DurableError → Type 0
  EndsOnFile error =
      (IsUnbegun wanted.config error × (Same × Alone))
      ⊎ (((path : Text) × (wanted.journal ≡ Some path)
      × (RunEndsBy wanted.form wanted.config unread left held holds ReaderFailed WriterFailed error × Behind))
      ⊎ ((path : Text) × (wanted.journal ≡ None) × (wanted.dump ≡ Some path) × (left ≡ unread)
      × (DumpEndsBy wanted.config held holds WriterFailed error × Alone)))

-- the configuration is refused, which was told: `told` and `tells` are the bytes that the writer of faults held and holds
abbrev pub IsFileRefused : Configuration → (told tells : Option (List ℕ)) → (Failed : Type 0) → Type 0
IsFileRefused config told tells Failed = (error : KvError) × (configure config ≡ Err error) × (Appends told tells (fault_text error) ⊎ Failed)
