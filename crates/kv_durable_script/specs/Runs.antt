-- A script on a durable bucket: what it answered, and what the file has in the end. `unread` and `left` are the bytes that the
-- source had and has, `held` and `holds` those of the sink, where they are known.
use Rattle.std.specs.Prelude.{◌≡◌, ◌⊎◌, ⊤, ℕ, Bool, false, List, ◌++◌, Option, Result, Ok, Err}
use Rattle.std.specs.Io.KnownBytes.{Consumes}
use Rattle.kv_keys.specs.declared.error.KvError.{KvError}
use Rattle.kv_keys.specs.declared.error.KvError.TheVariants.{OutOfMemory, ReadFault, WriteFault}
use Rattle.kv_script.specs.declared.form.Form.{Form}
use Rattle.kv_model.specs.Acts.{Act}
use Rattle.kv_model.specs.State.{State}
use Rattle.kv_single.specs.Held.{Represents}
use Rattle.kv_journal.specs.Entries.{Entry}
use Rattle.kv_replay.specs.Outcome.{Replays, Breaks, Stops, StopsWhole}
use Rattle.kv_replay.specs.Replaying.{LeftAt}
use Rattle.kv_replay.specs.Sessions.{Session, outside, state_behind, text_from, whole_from}
use Rattle.kv_durable.specs.Bases.{Base}
use Rattle.kv_durable.specs.Endings.{IsClosed, end_of}
use Rattle.kv_durable.specs.Journals.{IsLeft, is_stopped, told_next}
use Rattle.kv_durable.specs.declared.journal.Journal.{Journal}
use Rattle.kv_durable.specs.declared.durable.Durable.{Durable}
use Rattle.kv_durable.specs.declared.error.DurableError.{DurableError}
use Rattle.kv_durable.specs.declared.error.DurableError.TheVariants.{Refused, FileFault}
use Rattle.kv_durable_script.specs.Keeping.{KeepsMore}

module _ (form : Form) (session : Session) (unread left held holds : Option (List ℕ)) where
  -- the text of all that was read was written, or the run ended within it, after whole lines
  abbrev pub Ends : Type 0
  Ends = Replays (text_from form session) (whole_from form session) unread left held holds
      ⊎ StopsWhole (text_from form session) (whole_from form session) unread left held holds

  -- what was written where the run has ended by this: the source or the sink failed, memory ran out, or the file failed; the
  -- last two may come behind all answers, where the file is closed
  abbrev pub EndsBy : DurableError → Type 0
  EndsBy (Refused ReadFault) = Breaks (text_from form session) (whole_from form session) unread left held holds
  EndsBy (Refused WriteFault) = Stops (text_from form session) (whole_from form session) unread left held holds
  EndsBy (Refused OutOfMemory) = Ends
  EndsBy FileFault = Ends
  EndsBy error = ⊥

-- a run that ended so is told by this: what could not be made, or all of it, where the file has failed, by the file
abbrev pub IsOutcome : Result ⊤ KvError → DurableError → Type 0
IsOutcome run e =
    ((e ≡ FileFault) × ((run ≡ Ok tt) ⊎ (run ≡ Err OutOfMemory)))
    ⊎ ((x : KvError) × (run ≡ Err x) × (e ≡ Refused x))

-- why a file is not closed: memory ran out, or it failed
abbrev pub IsUnclosed : DurableError → Type 0
IsUnclosed e = (e ≡ FileFault) ⊎ (e ≡ Refused OutOfMemory)

-- a file that was closed behind these entries, or could not be: then nothing of what was on the disk has gone
abbrev pub HasEnded : {F : Type 0} → (F → List ℕ → List ℕ → Type 0) → Base → (kept loose : List Entry) → (acts : List Act) → Journal F → F → Type 0
HasEnded has base kept loose acts journal file =
    IsClosed has base kept loose acts journal file ⊎ IsLeft has journal.framing.seed base kept (loose ++ told_next journal (end_of acts)) file

-- What was answered is in the file, which ends cleanly, all of it on the disk: there was a bucket that had kept these entries and
-- more, and the file was closed behind them; and this bucket is at the state that the script comes to.
pub record ClosesBehind {F : Type 0} (has : F → List ℕ → List ℕ → Type 0) (usable : F → Bool) (form : Form) (base : Base) (state : State) (kept loose : List Entry) (unread left : Option (List ℕ)) (first : Durable F) (file : F) : Type 0 where
  pub last : Durable F
  pub more : KeepsMore has usable base first kept loose last
  pub closed : IsClosed has more.later_base more.on_disk more.behind more.later.acts last.journal file
  pub input : List ℕ
  pub read : Consumes unread left input
  pub answered : Represents (state_behind form (outside state) input) last.bucket

-- What was answered is in the file, however the run has ended. There was a bucket that had kept these entries and more, where each
-- act is synced all of them on the disk, and it has the acts that a beginning of what was read leads to; what was written is a
-- beginning of the answers to that, so no answer tells of an act that is not kept. Unless the file had failed by then, it has
-- these entries in the end: it ends cleanly behind them, or else nothing of what was on the disk has gone.
pub record KeepsAnswered {F : Type 0} (has : F → List ℕ → List ℕ → Type 0) (usable : F → Bool) (form : Form) (base : Base) (state : State) (kept loose : List Entry) (unread left held holds : Option (List ℕ)) (first : Durable F) (file : F) : Type 0 where
  pub last : Durable F
  pub more : KeepsMore has usable base first kept loose last
  pub answered : LeftAt form (outside state) unread left held holds last.bucket
  pub file_has : is_stopped usable last.journal ≡ false → HasEnded has more.later_base more.on_disk more.behind more.later.acts last.journal file
