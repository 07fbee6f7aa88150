-- What a replay makes of a version.
use Rattle.std.specs.Prelude.{◌≡◌, ℕ, List, ◌++◌, ⊤}
use Rattle.kv_frames.specs.Frames.{BeginsWhole, frames, offset_after}
use Rattle.kv_model.specs.Acts.{Act}
use Rattle.kv_store.specs.Standing.{StandsFor}
use Rattle.kv_store.specs.Stored.{Stored}
use Rattle.kv_journal.specs.Entries.{Entry, payloads_of}
use Rattle.kv_journal.specs.declared.replays.ReplayError.{ReplayError}
use Rattle.kv_journal.specs.declared.replays.ReplayError.TheVariants as errors

-- the second version has all that the first one has, and these acts behind it
pub record Extends (old : Stored) (acts : List Act) (new : Stored) : Type 0 where
  pub config : new.config ≡ old.config
  pub on : (before : List Act) → StandsFor before old → StandsFor (before ++ acts) new

-- entries stand in the bytes up to this offset, and at it a whole frame
pub record StopsAt (seed at : ℕ) (bytes : List ℕ) (offset : ℕ) : Type 0 where
  pub entries : List Entry
  pub rest : List ℕ
  pub before : bytes ≡ frames seed at (payloads_of entries) ++ rest
  pub here : offset ≡ offset_after at (payloads_of entries)
  pub begins : BeginsWhole seed offset rest

abbrev pub IsDamaged : ReplayError → Type 0
IsDamaged errors.OutOfMemory = ⊥
IsDamaged (errors.Damaged at) = ⊤

-- where the error tells an offset, bytes stop there
abbrev pub TellsWhere : (seed at : ℕ) → List ℕ → ReplayError → Type 0
TellsWhere seed at bytes errors.OutOfMemory = ⊤
TellsWhere seed at bytes (errors.Damaged offset) = StopsAt seed at bytes offset
