-- What a durable bucket is at, and what a call makes of it.
use Rattle.std.specs.Prelude.{◌≡◌, ◌⊎◌, ℕ, Bool, List, [], ◌∷◌, ◌++◌, Result, Ok, Err, map, ⊤}
use Rattle.kv_file.specs.Adding.{Adds}
use Rattle.kv_file.specs.declared.appender.Sync.TheVariants.{Each}
use Rattle.kv_model.specs.Acts.{Act, Wrote, Write}
use Rattle.kv_model.specs.Acceptance.{accept}
use Rattle.kv_model.specs.Configuration.{Configuration}
use Rattle.kv_model.specs.Requests.{asked}
use Rattle.kv_model.specs.declared.request.Request.{Request}
use Rattle.kv_store.specs.Standing.{StandsFor}
use Rattle.kv_store.specs.Stored.{Stored}
use Rattle.kv_model.specs.State.{State}
use Rattle.kv_single.specs.Held.{Bucketed, Represents}
use Rattle.kv_journal.specs.Entries.{Entry, acts_of}
use Rattle.kv_durable.specs.Bases.{Base, acts_before, replaced_by}
use Rattle.kv_journal.specs.Records.{Content, did_all}
use Rattle.kv_durable.specs.Journals.{HasEntries, IsLeft, Keeps, told_next}
use Rattle.kv_durable.specs.declared.durable.Durable.{Durable}
use Rattle.kv_durable.specs.declared.error.DurableError.{DurableError}
use Rattle.kv_durable.specs.declared.error.DurableError.TheVariants.{Refused, FileFault}

-- the state of these acts, with no watch
abbrev pub state_of : Configuration → List Act → State
state_of config acts = record { config = config; acts = acts; watches = [] }

-- a durable bucket is at a state and at the entries of its file: its bucket represents the state, whose acts are those
-- of its base and of the entries, and its journal keeps these, the first ones on the disk and the others loose
pub record IsAt {F : Type 0} (has : F → List ℕ → List ℕ → Type 0) (usable : F → Bool) (state : State) (kept loose : List Entry) (durable : Durable F) : Type 0 where
  pub base : Base
  pub config : base.config ≡ state.config
  pub represents : Represents state durable.bucket
  pub acts : state.acts ≡ acts_before base ++ acts_of (kept ++ loose)
  pub keeps : Keeps has usable base kept loose durable.journal

-- the act that is accepted, if there is one
abbrev pub act_of : {E : Type 0} → Result Write E → List Act
act_of (Ok w) = Wrote w ∷ []
act_of (Err error) = []

-- what a batch tells, if it is accepted: its writes, at once
abbrev pub batch_of : {E : Type 0} → Result (List Write) E → List Content
batch_of (Ok ws) = did_all (map Wrote ws) ∷ []
batch_of (Err error) = []

-- A call has added to the file what it was accepted as: behind what is loose, or it is loose alone, or all is on the disk, as
-- it is where each write is synced. The bucket is at the state behind the call, and at these entries.
abbrev pub IsRecorded : {F : Type 0} → (F → List ℕ → List ℕ → Type 0) → (F → Bool) → (State → State) → (State → List Content) → Durable F → Durable F → Type 0
IsRecorded has usable later told old new = (state : State) (kept loose : List Entry) (at : IsAt has usable state kept loose old) →
    (k : List Entry) × (l : List Entry) × Adds kept loose (told_next old.journal (told state)) k l × (old.journal.appender.sync ≡ Each → l ≡ []) × (next : IsAt has usable (later state) k l new) × (next.base ≡ at.base)

-- A call has failed by its file. Nothing that was on the disk has gone, and nothing else was handed over than a beginning of
-- what the call was accepted as.
abbrev pub IsHanded : {F : Type 0} → (F → List ℕ → List ℕ → Type 0) → (F → Bool) → (State → List Content) → Durable F → Durable F → Type 0
IsHanded has usable told old new = (state : State) (kept loose : List Entry) (at : IsAt has usable state kept loose old) →
    IsLeft has old.journal.framing.seed at.base kept (loose ++ told_next old.journal (told state)) new.journal.appender.file

-- that of a file which begins with a checkpoint of a state
abbrev pub checkpoint_at : State → Base
checkpoint_at state = replaced_by state.config state.acts

-- A call was made, and the file behind it is a checkpoint: the bucket is at the state behind the call, and the file has nothing
-- but what it stores there, all of it on the disk.
abbrev pub IsReplaced : {F : Type 0} → (F → List ℕ → List ℕ → Type 0) → (F → Bool) → (State → State) → Durable F → Durable F → Type 0
IsReplaced has usable later old new = (state : State) (kept loose : List Entry) → IsAt has usable state kept loose old →
    (next : IsAt has usable (later state) [] [] new) × (next.base ≡ checkpoint_at (later state))

-- A call was recorded, and then a checkpoint has failed: the file has what was recorded, or it is the whole checkpoint with this
-- seed, of the state behind the call.
abbrev pub HasEither : {F : Type 0} → (F → List ℕ → List ℕ → Type 0) → (F → Bool) → (State → State) → (State → List Content) → (seed : ℕ) → Durable F → F → Type 0
HasEither has usable later told seed old file = (state : State) (kept loose : List Entry) (at : IsAt has usable state kept loose old) →
    (k : List Entry) × (l : List Entry) × Adds kept loose (told_next old.journal (told state)) k l × (old.journal.appender.sync ≡ Each → l ≡ [])
    × (HasEntries has old.journal.framing.seed at.base k l file ⊎ HasEntries has seed (checkpoint_at (later state)) [] [] file)

-- it is a refusal of the rules or of memory, or FileFault
abbrev pub IsRefusal : DurableError → Type 0
IsRefusal (Refused error) = ⊤
IsRefusal FileFault = ⊤
IsRefusal error = ⊥

-- behind all acts that the bucket's version stands for the request is accepted, and this version stands for the acts with its
-- write
abbrev pub Accepts : Bucketed → Request → Stored → Type 0
Accepts bucket request version = (acts : List Act) → StandsFor acts bucket.version →
    (w : Write) × ((accept bucket.version.config (asked request) acts ≡ Ok w) × StandsFor (acts ++ Wrote w ∷ []) version)
