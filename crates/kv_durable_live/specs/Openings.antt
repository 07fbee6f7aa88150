-- What an opening goes on from.
use Rattle.std.specs.Prelude.{◌≡◌, ◌⊎◌, ℕ, Bool, true, List, [], ◌++◌, Result}
use Rattle.kv_keys.specs.Outcome.{Refuses}
use Rattle.kv_keys.specs.declared.error.KvError.{KvError}
use Rattle.kv_durable.specs.Bases.{Base, acts_before, fresh}
use Rattle.kv_durable.specs.Files.{Reads, file_of}
use Rattle.kv_durable.specs.Journals.{Keeps}
use Rattle.kv_durable.specs.Openings.{HasRead, LeavesBytes}
use Rattle.kv_durable.specs.declared.durable.Durable.{Durable}
use Rattle.kv_durable.specs.declared.error.DurableError.{DurableError}
use Rattle.kv_durable.specs.declared.error.DurableError.TheVariants.{Refused}
use Rattle.kv_durable.specs.declared.journal.Journal.{Journal}
use Rattle.kv_journal.specs.Entries.{Entry, acts_of}
use Rattle.kv_model.specs.Acts.{Act}
use Rattle.kv_model.specs.Configuration.{Configuration}

-- where bytes can be read with no checkpoint, the base has none
abbrev pub IsPlainWhere : Configuration → List ℕ → Base → Type 0
IsPlainWhere config bytes base = (seed : ℕ) (entries : List Entry) (rest : List ℕ) → Reads (fresh config) bytes seed entries rest → base ≡ fresh config

-- An opening with this configuration has read these entries of a file, behind this base.
pub record IsRead {F : Type 0} (has : F → List ℕ → List ℕ → Type 0) (usable : F → Bool) (config : Configuration) (file : F) (base : Base) (entries : List Entry) (durable : Durable F) (dropped : ℕ) : Type 0 where
  pub own : base.config ≡ config
  pub read : HasRead has usable base file entries durable dropped
  pub plain : usable file ≡ true → (kept loose : List ℕ) → has file kept loose → IsPlainWhere config (kept ++ loose) base

-- the acts that an opening goes on from: those in whose place the checkpoint of its file stands, if it has one, and behind them
-- those of the entries that it has read
abbrev pub AreRead : {F : Type 0} → (F → List ℕ → List ℕ → Type 0) → (F → Bool) → Configuration → F → Durable F → ℕ → List Act → Type 0
AreRead has usable config file durable dropped acts = (base : Base) × (entries : List Entry) × (acts ≡ acts_before base ++ acts_of entries)
    × IsRead has usable config file base entries durable dropped

-- What is published begins with these acts: whatever a usable file had, they are those in whose place its checkpoint stands, if
-- it has one, and those of entries, and all of it is on the disk. Where the file was empty, there is no checkpoint and no entry;
-- else they are what is read of it.
abbrev pub GoesOnFrom : {F : Type 0} → (F → List ℕ → List ℕ → Type 0) → (F → Bool) → Configuration → F → Journal F → List Act → Type 0
GoesOnFrom has usable config file journal acts = usable file ≡ true → (kept loose : List ℕ) → has file kept loose →
    (base : Base) × (entries : List Entry) × (base.config ≡ config) × (acts ≡ acts_before base ++ acts_of entries)
    × Keeps has usable base entries [] journal × (kept ++ loose ≡ [] → (entries ≡ []) × (base ≡ fresh config))
    × ((kept ++ loose ≡ [] → ⊥) → (rest : List ℕ) × Reads base (kept ++ loose) journal.framing.seed entries rest)
    × IsPlainWhere config (kept ++ loose) base

-- What a refused opening leaves of a file. It leaves what a failed opening of a `Durable` does; or the file as it was opened: what
-- is read of it is there, all of it on the disk, and the rest was cut off.
abbrev pub LeavesFile : {F : Type 0} → (F → List ℕ → List ℕ → Type 0) → Configuration → (seed : ℕ) → (kept loose : List ℕ) → F → Type 0
LeavesFile has config seed kept loose file =
    LeavesBytes has config seed kept loose file
    ⊎ ((base : Base) × (other : ℕ) × (entries : List Entry) × (rest : List ℕ) × (base.config ≡ config)
    × Reads base (kept ++ loose) other entries rest × has file (file_of other base entries) [])

-- the error is the refusal of this outcome, or want of memory where it refuses nothing
abbrev pub IsRefusedBy : {X : Type 0} → Result X KvError → DurableError → Type 0
IsRefusedBy {X} outcome error = (x : KvError) × (error ≡ Refused x) × Refuses x outcome
