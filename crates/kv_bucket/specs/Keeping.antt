-- What lies under the lock, and what a call makes of it.
use Rattle.std.specs.Prelude.{◌≡◌, ℕ, List, [], ◌∷◌, ◌++◌, Result, Ok, Err, ◌&&◌, nat_le, if◌then◌else◌}
use Rattle.kv_keys.specs.declared.error.KvError.{KvError}
use Rattle.kv_keys.specs.declared.error.KvError.TheVariants.{NoReader}
use Rattle.kv_keys.specs.Outcome.{Refuses}
use Rattle.kv_model.specs.Acceptance.{accept, IsLawful}
use Rattle.kv_model.specs.Acts.{Act, Wrote, Write}
use Rattle.kv_model.specs.Configuration.{Configuration, configure}
use Rattle.kv_model.specs.Requests.{Asked}
use Rattle.kv_publish.specs.Openings.{Opening}
use Rattle.kv_store.specs.Standing.{StandsFor}
use Rattle.kv_store.specs.Stored.{Stored}
use Rattle.kv_model.specs.declared.call.Call.{Call}
use Rattle.kv_model.specs.Answers.{Answer}
use Rattle.kv_single.specs.Held.{Bucketed, Represents}
use Rattle.kv_single.specs.Stepping.{IsStep}
use Rattle.kv_model.specs.State.{State, Watch, after, answer_to, may_compact}

-- a bucket, and the acts that are published of its opening
pub record KeeperState : Type 0 where
  pub bucket : Bucketed
  pub published : List Act

abbrev pub kept_of : Bucketed → List Act → KeeperState
kept_of bucket published = record { bucket = bucket; published = published }

-- the value under the lock is at a state of the model: its bucket represents it, and the acts of the state are those
-- that are published
pub record IsAt (state : State) (kept : KeeperState) : Type 0 where
  pub represents : Represents state kept.bucket
  pub published : kept.published ≡ state.acts

-- a version of this configuration stands for these acts
abbrev pub Shows : Configuration → List Act → Stored → Type 0
Shows config acts version = (version.config ≡ config) × StandsFor acts version

-- the state of these acts and watches
abbrev pub state_of : Configuration → List Act → List Watch → State
state_of config acts watches = record { config = config; acts = acts; watches = watches }

-- it is at some state of this configuration
abbrev pub IsSomewhere : Configuration → KeeperState → Type 0
IsSomewhere config kept = (watches : List Watch) × IsAt (state_of config kept.published watches) kept

-- the value under the lock with more acts, which are published, and the version after them in place
abbrev pub kept_with : KeeperState → List Act → Stored → KeeperState
kept_with kept acts version = record { bucket = record kept.bucket { version = version }; published = kept.published ++ acts }

-- an act that is made and not published, and the version after it
pub record Ready : Type 0 where
  pub act : Act
  pub version : Stored

-- It may be published next: with it the value is at some state, and to put the version after it in place is one step of the
-- bucket.
pub record ComesNext (config : Configuration) (kept : KeeperState) (ready : Ready) : Type 0 where
  pub leads : IsSomewhere config (kept_with kept (ready.act ∷ []) ready.version)
  pub step : (call : Call) × ((answer : Answer) × IsStep kept.bucket call answer (record kept.bucket { version = ready.version }))

-- a call is one step of the model, from every state that the value was at, in full
abbrev pub IsKeptStep : KeeperState → Call → Answer → KeeperState → Type 0
IsKeptStep old call answer new = (state : State) → IsAt state old → (answer ≡ answer_to state call) ×
    IsAt (after state call) new

-- a request was accepted after the acts before, at this revision, and the acts after are those with its write
abbrev pub PublishesWrite : Configuration → Asked → ℕ → List Act → List Act → Type 0
PublishesWrite config request revision before later = (w : Write) ×
    ((accept config request before ≡ Ok w) × (w.revision ≡ revision) × (later ≡ before ++ Wrote w ∷ []))

-- the same after some lawful acts
abbrev pub WritesSomewhere : Configuration → Asked → ℕ → List Act → Type 0
WritesSomewhere config request revision later = (before : List Act) ×
    (IsLawful config before × PublishesWrite config request revision before later)

-- the refusal is the one that the rules give after some lawful acts
abbrev pub RefusedSomewhere : Configuration → Asked → KvError → Type 0
RefusedSomewhere config request error = (before : List Act) ×
    (IsLawful config before × Refuses error (accept config request before))

-- a state of this configuration, of lawful acts
abbrev pub IsLawfulState : Configuration → State → Type 0
IsLawfulState config state = (state.config ≡ config) × IsLawful config state.acts

-- at some such state a compaction to the floor is made
abbrev pub CompactsSomewhere : Configuration → ℕ → Type 0
CompactsSomewhere config floor = (state : State) × (IsLawfulState config state × (may_compact floor state ≡ Ok floor))

-- the refusal of a compaction is the one that the rules give at some such state
abbrev pub UncompactedSomewhere : Configuration → ℕ → KvError → Type 0
UncompactedSomewhere config floor error = (state : State) ×
    (IsLawfulState config state × Refuses error (may_compact floor state))

-- an opening that has no name yet, and how many readers it is for
pub record Unnamed : Type 0 where
  pub opening : Opening
  pub readers : ℕ

-- an opening is for 1 to 32 readers
abbrev pub for_readers : ℕ → Configuration → Result Configuration KvError
for_readers readers config = if nat_le 1 readers && nat_le readers 32 then Ok config else Err NoReader

abbrev pub then_readers : ℕ → Result Configuration KvError → Result Configuration KvError
then_readers readers (Ok config) = for_readers readers config
then_readers readers (Err error) = Err error

-- the refusal of an opening: that of its configuration first, then that of its number of readers
abbrev pub may_open : Configuration → ℕ → Result Configuration KvError
may_open config readers = then_readers readers (configure config)
