-- The entries of a journal, and those that are added to it.
use Rattle.std.specs.Prelude.{◌≡◌, ℕ, ◌+◌, ◌<◌, ◌≤◌, ◌^◌, Bool, false, not, ◌||◌, nat_lt, nat_le, if◌then◌else◌, List, [], ◌∷◌, ◌++◌, length}
use Rattle.kv_file.specs.Adding.{Adds}
use Rattle.kv_file.specs.Bytes.{Has}
use Rattle.kv_file.specs.declared.appender.Sync.TheVariants.{Each, Every}
use Rattle.kv_frames.specs.Frames.{ArePayloads, IsPayload, frames}
use Rattle.kv_journal.specs.Entries.{AreLawful, Entry, acts_of, payload_of, payloads_of}
use Rattle.kv_journal.specs.Records.{Content, did}
use Rattle.kv_model.specs.Acts.{Wrote}
use Rattle.kv_model.specs.Requests.{asked, write_for}
use Rattle.kv_model.specs.declared.request.Request.{Request}
use Rattle.kv_durable.specs.Bases.{Base, IsLawfulBase, acts_before, base_payloads}
use Rattle.kv_durable.specs.Files.{IsBetween, file_of, frames_behind}
use Rattle.kv_durable.specs.declared.journal.Journal.{Journal}

-- the file of a journal has the first entries on the disk, the others loose behind them, and nothing else; no call of it has
-- failed, and each entry could be added behind those before it
pub record Keeps {F : Type 0} (has : F → List ℕ → List ℕ → Type 0) (usable : F → Bool) (base : Base) (kept loose : List Entry) (journal : Journal F) : Type 0 where
  pub seed_fits : journal.framing.seed < 2 ^ 64
  pub own : journal.config.config ≡ base.config
  pub first : ArePayloads (base_payloads base)
  pub replaced : IsLawfulBase base
  pub lawful : AreLawful base.config (acts_before base) (kept ++ loose)
  pub payloads : ArePayloads (payloads_of (kept ++ loose))
  pub bytes : Has has usable (file_of journal.framing.seed base kept) (frames_behind journal.framing.seed base kept loose) journal.appender
  -- where that is asked for, fewer entries than so many are loose
  pub few : (n : ℕ) → journal.appender.sync ≡ Every n → 0 < n →
      (length loose ≤ journal.appender.waiting) × (journal.appender.waiting < n)

-- nothing more is added to a file that has failed, or that has 2^62 bytes
abbrev pub is_stopped : {F : Type 0} → (F → Bool) → Journal F → Bool
is_stopped usable journal = not (usable journal.appender.file) || nat_le 4611686018427387904 journal.appender.offset

-- how many bytes an entry that is added next says are loose before it: where more than a gibibyte are, these are brought onto
-- the disk first
abbrev pub loose_ahead : {F : Type 0} → Journal F → ℕ
loose_ahead journal = if nat_lt 1073741824 journal.appender.loose then 0 else journal.appender.loose

-- the entries that tell this, where they are added at once behind so many loose bytes: each says that those before it are
-- loose too
abbrev pub entries_at : ℕ → List Content → List Entry
entries_at loose [] = []
entries_at loose (content ∷ more) = record { loose = loose; content = content } ∷ entries_at (loose + (8 + length (payload_of (record { loose = loose; content = content })))) more

-- the entries that tell this next
abbrev pub told_next : {F : Type 0} → Journal F → List Content → List Entry
told_next journal contents = entries_at (loose_ahead journal) contents

-- where a journal ends behind the entries that tell this next
abbrev pub offset_behind : {F : Type 0} → Journal F → List Content → ℕ
offset_behind journal contents = journal.appender.offset + length (frames journal.framing.seed journal.appender.offset (payloads_of (told_next journal contents)))

-- these entries can be added behind those
abbrev pub CanFollow : Base → (before entries : List Entry) → Type 0
CanFollow base before entries = AreLawful base.config (acts_before base ++ acts_of before) entries × ArePayloads (payloads_of entries)

-- these entries were added: they are loose as well, or loose alone, or all is on the disk
abbrev pub HasAdded : {F : Type 0} → (F → List ℕ → List ℕ → Type 0) → (F → Bool) → Base → (kept loose entries : List Entry) → Journal F → Type 0
HasAdded has usable base kept loose entries journal = (k : List Entry) × (l : List Entry) × Adds kept loose entries k l × Keeps has usable base k l journal

-- nothing of what was on the disk has gone, and nothing was handed over but a beginning of the frames of these
abbrev pub IsLeft : {F : Type 0} → (F → List ℕ → List ℕ → Type 0) → (seed : ℕ) → Base → (kept maybe : List Entry) → F → Type 0
IsLeft has seed base kept maybe file = (disk : List ℕ) × (loose : List ℕ) × IsBetween seed base kept maybe disk loose × has file disk loose

-- the file has just these entries, the first ones on the disk, and the others loose behind them
abbrev pub HasEntries : {F : Type 0} → (F → List ℕ → List ℕ → Type 0) → (seed : ℕ) → Base → (kept loose : List Entry) → F → Type 0
HasEntries has seed base kept loose file = has file (file_of seed base kept) (frames_behind seed base kept loose)

-- the bytes are the frame of the entry that tells this next, which is a payload
pub record IsFrameOf {F : Type 0} (journal : Journal F) (content : Content) (bytes : List ℕ) : Type 0 where
  pub are : bytes ≡ frames journal.framing.seed journal.appender.offset (payloads_of (told_next journal (content ∷ [])))
  pub payload : IsPayload (payload_of (record { loose = loose_ahead journal; content = content }))

-- Bytes were added to a journal: whatever entries it kept, if the bytes are the frame of one entry that can be added behind
-- those, or none, it keeps that too.
abbrev pub AddsFrames : {F : Type 0} → (F → List ℕ → List ℕ → Type 0) → (F → Bool) → List ℕ → (old new : Journal F) → Type 0
AddsFrames has usable bytes old new = (base : Base) (kept loose entries : List Entry) → Keeps has usable base kept loose old →
    CanFollow base (kept ++ loose) entries → length entries ≤ 1 →
    bytes ≡ frames old.framing.seed old.appender.offset (payloads_of entries) → HasAdded has usable base kept loose entries new

-- bytes were not added, or in part
abbrev pub LeavesFrames : {F : Type 0} → (F → List ℕ → List ℕ → Type 0) → (F → Bool) → List ℕ → (old : Journal F) → F → Type 0
LeavesFrames has usable bytes old file = (base : Base) (kept loose entries : List Entry) → Keeps has usable base kept loose old →
    bytes ≡ frames old.framing.seed old.appender.offset (payloads_of entries) →
    IsLeft has old.framing.seed base kept (loose ++ entries) file

-- the record of this request was added, and all is on the disk where that is due
pub record AddsWrite {F : Type 0} (has : F → List ℕ → List ℕ → Type 0) (usable : F → Bool) (request : Request) (old new : Journal F) : Type 0 where
  pub bytes : List ℕ
  pub frame : (revision : ℕ) → IsFrameOf old (did (Wrote (write_for (asked request) revision))) bytes
  pub added : AddsFrames has usable bytes old new
  pub each : old.appender.sync ≡ Each → new.appender.loose ≡ 0
  pub every : (n : ℕ) → old.appender.sync ≡ Every n → 0 < n → new.appender.waiting < n
  pub framing : new.framing ≡ old.framing
  pub sync : new.appender.sync ≡ old.appender.sync

-- the file has failed: the record of this request was not added, or in part
pub record LeavesWrite {F : Type 0} (has : F → List ℕ → List ℕ → Type 0) (usable : F → Bool) (faults : F → ℕ) (request : Request) (old new : Journal F) : Type 0 where
  pub bytes : List ℕ
  pub frame : (revision : ℕ) → IsFrameOf old (did (Wrote (write_for (asked request) revision))) bytes
  pub left : LeavesFrames has usable bytes old new.appender.file
  pub failed : usable new.appender.file ≡ false
  pub counted : faults old.appender.file < faults new.appender.file
  pub framing : new.framing ≡ old.framing
  pub sync : new.appender.sync ≡ old.appender.sync
