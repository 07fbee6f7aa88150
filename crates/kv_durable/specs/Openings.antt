-- What an opening makes of a file.
use Rattle.std.specs.Prelude.{◌≡◌, ◌⊎◌, ℕ, ◌<◌, ◌^◌, Bool, true, false, List, [], ◌++◌, length}
use Rattle.kv_frames.specs.Frames.{ArePayloads}
use Rattle.kv_model.specs.Acceptance.{IsLawful}
use Rattle.kv_model.specs.Acts.{Act}
use Rattle.kv_model.specs.Configuration.{Configuration}
use Rattle.kv_model.specs.State.{empty}
use Rattle.kv_journal.specs.Header.{beginning}
use Rattle.kv_journal.specs.Entries.{Entry, acts_of}
use Rattle.kv_single.specs.Held.{Represents}
use Rattle.kv_store.specs.Standing.{StandsFor}
use Rattle.kv_durable.specs.Bases.{Base, IsBaseOf, KnowsBase, acts_before, base_payloads, fresh, opening, replaced_by}
use Rattle.kv_durable.specs.Durables.{IsAt, state_of}
use Rattle.kv_durable.specs.Files.{Reads, file_of}
use Rattle.kv_durable.specs.declared.durable.Durable.{Durable}
use Rattle.kv_durable.specs.declared.open.Found.{Found}
use Rattle.kv_durable.specs.declared.recovery.Recovered.{Recovered}

-- A file with these bytes was opened: they are read as these entries and a rest, which was cut off. The bucket is at the state
-- of their acts, with no watch, and at these entries, all of them on the disk.
pub record IsReopened {F : Type 0} (has : F → List ℕ → List ℕ → Type 0) (usable : F → Bool) (base : Base) (bytes : List ℕ) (entries : List Entry) (rest : List ℕ) (durable : Durable F) (dropped : ℕ) : Type 0 where
  pub reads : Reads base bytes durable.journal.framing.seed entries rest
  pub at : IsAt has usable (state_of base.config (acts_before base ++ acts_of entries)) entries [] durable
  pub based : at.base ≡ base
  pub told : dropped ≡ length rest

-- An empty file was made that of a new bucket, with this seed: it is at the state of no act and no watch, and at no entry, and
-- what a file begins with is on the disk.
pub record IsNew {F : Type 0} (has : F → List ℕ → List ℕ → Type 0) (usable : F → Bool) (config : Configuration) (seed : ℕ) (durable : Durable F) (dropped : ℕ) : Type 0 where
  pub has_seed : durable.journal.framing.seed ≡ seed
  pub at : IsAt has usable (empty config) [] [] durable
  pub based : at.base ≡ fresh config
  pub none : dropped ≡ 0

-- An opening has read these entries of a file with this base: the bucket is at the state of its acts and of theirs. And whatever
-- a usable file had, all of them are on the disk: none, and no checkpoint, where it was empty; else those that are read of it,
-- with a rest that was cut off.
abbrev pub HasRead : {F : Type 0} → (F → List ℕ → List ℕ → Type 0) → (F → Bool) → Base → F → List Entry → Durable F → ℕ → Type 0
HasRead has usable base file entries durable dropped = Represents (state_of base.config (acts_before base ++ acts_of entries)) durable.bucket
    × (usable file ≡ true → (kept loose : List ℕ) → has file kept loose →
    (at : IsAt has usable (state_of base.config (acts_before base ++ acts_of entries)) entries [] durable) × (at.base ≡ base)
    × (kept ++ loose ≡ [] → (entries ≡ []) × (base ≡ fresh base.config))
    × ((kept ++ loose ≡ [] → ⊥) → (rest : List ℕ) × IsReopened has usable base (kept ++ loose) entries rest durable dropped))

-- What a failed opening leaves. Of a file with bytes these are left, and those that were on the disk are there, at least up to
-- the end of what is read. An empty file is empty still, or has all that it was to begin with.
abbrev pub LeavesBytes : {F : Type 0} → (F → List ℕ → List ℕ → Type 0) → Configuration → (seed : ℕ) → (kept loose : List ℕ) → F → Type 0
LeavesBytes has config seed kept loose file =
    ((k : List ℕ) × (l : List ℕ) × (k ++ l ≡ kept ++ loose) × has file k l)
    ⊎ ((kept ++ loose ≡ []) × has file (beginning seed config) [])

-- Which base a file goes on from: its first frames are these payloads, and where there are none it has no checkpoint. A base
-- that the file is read with is one of these, and so is one whose checkpoint the file begins with.
pub record TellsBase (config : Configuration) (bytes : List ℕ) (payloads : List (List ℕ)) (checkpointed : Bool) : Type 0 where
  pub plain : checkpointed ≡ false → payloads ≡ []
  pub some : checkpointed ≡ true → payloads ≡ [] → ⊥
  pub read : (base : Base) (seed : ℕ) (entries : List Entry) (rest : List ℕ) → base.config ≡ config → Reads base bytes seed entries rest → IsBaseOf config payloads base
  pub front : (acts : List Act) (seed : ℕ) (left : List ℕ) → seed < 2 ^ 64 → IsLawful config acts → ArePayloads (base_payloads (replaced_by config acts)) →
      bytes ≡ opening seed (replaced_by config acts) ++ left → IsBaseOf config payloads (replaced_by config acts)

-- what was recovered of bytes: these entries, behind whatever the first payloads stand for, and they stand for some acts
pub record IsRecovered (config : Configuration) (bytes : List ℕ) (payloads : List (List ℕ)) (entries : List Entry) (rest : List ℕ) (recovered : Recovered) : Type 0 where
  pub same : recovered.version.config ≡ config
  pub told : recovered.dropped ≡ length rest
  pub tells : TellsBase config bytes payloads recovered.checkpointed
  pub knows : KnowsBase config payloads recovered.checkpointed
  pub reads : (base : Base) → IsBaseOf config payloads base → Reads base bytes recovered.framing.seed entries rest
  pub stands : (base : Base) → IsBaseOf config payloads base → StandsFor (acts_before base ++ acts_of entries) recovered.version
  pub offset : (base : Base) → IsBaseOf config payloads base → recovered.offset ≡ length (file_of recovered.framing.seed base entries)

-- A file with these bytes was opened: whatever base it goes on from, it was opened so.
pub record IsReopenedOn {F : Type 0} (has : F → List ℕ → List ℕ → Type 0) (usable : F → Bool) (config : Configuration) (bytes : List ℕ) (durable : Durable F) (dropped : ℕ) (checkpointed : Bool) : Type 0 where
  pub payloads : List (List ℕ)
  pub entries : List Entry
  pub rest : List ℕ
  pub tells : TellsBase config bytes payloads checkpointed
  pub each : (base : Base) → IsBaseOf config payloads base → IsReopened has usable base bytes entries rest durable dropped

-- what was found in bytes: as what was recovered of them, with a bucket
pub record IsFoundIn (config : Configuration) (bytes : List ℕ) (payloads : List (List ℕ)) (entries : List Entry) (rest : List ℕ) (found : Found) : Type 0 where
  pub own : found.config.config ≡ config
  pub told : found.dropped ≡ length rest
  pub tells : TellsBase config bytes payloads found.checkpointed
  pub knows : KnowsBase config payloads found.checkpointed
  pub reads : (base : Base) → IsBaseOf config payloads base → Reads base bytes found.framing.seed entries rest
  pub represents : (base : Base) → IsBaseOf config payloads base → Represents (state_of config (acts_before base ++ acts_of entries)) found.bucket
  pub offset : (base : Base) → IsBaseOf config payloads base → found.offset ≡ length (file_of found.framing.seed base entries)

-- what was found in bytes, of which an empty list is made a file of this seed: the bucket of these entries, which end at the
-- offset, and how many bytes stand behind them
pub record IsFound (config : Configuration) (seed : ℕ) (bytes : List ℕ) (payloads : List (List ℕ)) (entries : List Entry) (found : Found) : Type 0 where
  pub own : found.config.config ≡ config
  pub plain : found.checkpointed ≡ false → payloads ≡ []
  pub knows : KnowsBase config payloads found.checkpointed
  pub represents : (base : Base) → IsBaseOf config payloads base → Represents (state_of config (acts_before base ++ acts_of entries)) found.bucket
  pub offset : (base : Base) → IsBaseOf config payloads base → found.offset ≡ length (file_of found.framing.seed base entries)
  pub new : bytes ≡ [] → (found.framing.seed ≡ seed) × (entries ≡ []) × (found.dropped ≡ 0) × (payloads ≡ []) × (found.checkpointed ≡ false)
  pub read : (bytes ≡ [] → ⊥) → (rest : List ℕ) × IsFoundIn config bytes payloads entries rest found
