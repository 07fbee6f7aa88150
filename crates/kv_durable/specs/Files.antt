-- The file of a bucket, by the entries that stand in it.
use Rattle.std.specs.Prelude.{◌≡◌, ℕ, ◌<◌, ◌≤◌, ◌^◌, List, ◌++◌, length, take}
use Rattle.kv_frames.specs.Frames.{ArePayloads, BeginsWhole, frames}
use Rattle.kv_frames.specs.Reading.{HasForeign}
use Rattle.kv_model.specs.Acts.{IsPrefix}
use Rattle.kv_journal.specs.Entries.{AreLawful, Entry, payloads_of}
use Rattle.kv_durable.specs.Bases.{Base, IsLawfulBase, acts_before, base_payloads, opening}

-- a file of this seed and base with these entries
abbrev pub file_of : ℕ → Base → List Entry → List ℕ
file_of seed base entries = opening seed base ++ frames seed (length (opening seed base)) (payloads_of entries)

-- the frames of the second entries in a file behind the first ones
abbrev pub frames_behind : ℕ → Base → (first second : List Entry) → List ℕ
frames_behind seed base first second = frames seed (length (file_of seed base first)) (payloads_of second)

-- The bytes are read as these entries, each of which can be added behind those before it: they are a file of them, and then
-- a rest at whose front no whole frame stands.
pub record Reads (base : Base) (bytes : List ℕ) (seed : ℕ) (entries : List Entry) (rest : List ℕ) : Type 0 where
  pub seed_fits : seed < 2 ^ 64
  pub whole : bytes ≡ file_of seed base entries ++ rest
  pub first : ArePayloads (base_payloads base)
  pub each : ArePayloads (payloads_of entries)
  pub replaced : IsLawfulBase base
  pub lawful : AreLawful base.config (acts_before base) entries
  pub ended : BeginsWhole seed (length (file_of seed base entries)) rest → ⊥

-- a file has these entries on the disk, and nothing else was handed over than a beginning of the frames of those that may be
-- behind them
pub record IsBetween (seed : ℕ) (base : Base) (kept maybe : List Entry) (disk loose : List ℕ) : Type 0 where
  pub on_disk : IsPrefix (file_of seed base kept) disk
  pub no_more : IsPrefix (disk ++ loose) (file_of seed base (kept ++ maybe))

-- what is read is what was on the disk, and of what may be behind it a beginning
abbrev pub IsBeginning : (kept maybe entries : List Entry) → Type 0
IsBeginning kept maybe entries = (k : ℕ) × (k ≤ length maybe) × (entries ≡ kept ++ take k maybe)

-- behind what was on the disk stands a frame with its right checksum that was never written there
abbrev pub HasForgery : ℕ → Base → (kept maybe : List Entry) → List ℕ → Type 0
HasForgery seed base kept maybe left =
    (tail : List ℕ) × (left ≡ file_of seed base kept ++ tail) × HasForeign seed (length (file_of seed base kept)) tail (payloads_of maybe)
