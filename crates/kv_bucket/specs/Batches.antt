-- What a batch makes of what lies under the lock, and of what is published.
use Rattle.std.specs.Prelude.{◌≡◌, ◌<◌, ◌^◌, ℕ, List, Ok, map}
use Rattle.kv_model.specs.Acceptance.{IsLawful}
use Rattle.kv_model.specs.Acts.{Act, Write}
use Rattle.kv_model.specs.Batches.{IsRefusedAt, accept_all, after_all, after_batch, first_revision}
use Rattle.kv_model.specs.Configuration.{Configuration}
use Rattle.kv_model.specs.Requests.{Asked, asked}
use Rattle.kv_model.specs.State.{State}
use Rattle.kv_model.specs.declared.batch.BatchRefused.{BatchRefused}
use Rattle.kv_model.specs.declared.call.Call.{Call}
use Rattle.kv_model.specs.declared.request.Request.{Request}
use Rattle.kv_publish.specs.Steps.{acts_from}
use Rattle.kv_single.specs.Batches.{LeadThere}
use Rattle.kv_store.specs.Stored.{Stored}
use Rattle.kv_bucket.specs.Keeping.{KeeperState, IsAt, IsSomewhere, kept_with}
use Rattle.kv_bucket.specs.inside.Beginnings.{HasBeginnings}

-- from every state that the value was at, in full, the requests are accepted, each behind those before it; it is at the
-- state with their writes, and the revision of the first was answered
abbrev pub IsKeptBatch : KeeperState → List Request → ℕ → KeeperState → Type 0
IsKeptBatch old requests first new = (state : State) → IsAt state old →
    (ws : List Write) × ((accept_all state.config (map asked requests) state.acts ≡ Ok ws)
    × ((first ≡ first_revision state.acts ws) × IsAt (after_batch state (Ok ws)) new))

-- the writes of a batch that are made and not published: the revision of the first, and the version after them
pub record ReadyBatch : Type 0 where
  pub first : ℕ
  pub version : Stored

-- They may be published next, in one step: with them the value is at some state, for each beginning of them there is a version,
-- and to put the version after them in place is what some calls in a row do to the bucket.
pub record ComeNext (config : Configuration) (kept : KeeperState) (requests : List Request) (ready : ReadyBatch) : Type 0 where
  pub small : ready.first < 2 ^ 32
  pub leads : IsSomewhere config (kept_with kept (acts_from ready.first requests) ready.version)
  pub each : HasBeginnings config kept.published (acts_from ready.first requests)
  pub steps : (calls : List Call) × LeadThere calls kept.bucket (record kept.bucket { version = ready.version })

-- requests were accepted after the acts before, the first at this revision, and the acts after are those with their
-- writes
abbrev pub PublishesAll : Configuration → List Asked → ℕ → List Act → List Act → Type 0
PublishesAll config requests first before later = (ws : List Write) ×
    ((accept_all config requests before ≡ Ok ws) × ((first ≡ first_revision before ws) × (later ≡ after_all before ws)))

-- the same after some lawful acts
abbrev pub WritesAllSomewhere : Configuration → List Asked → ℕ → List Act → Type 0
WritesAllSomewhere config requests first later = (before : List Act) ×
    (IsLawful config before × PublishesAll config requests first before later)

-- the refusal is the one that the rules give after some lawful acts
abbrev pub RefusedAllSomewhere : Configuration → List Asked → BatchRefused → Type 0
RefusedAllSomewhere config requests refused = (before : List Act) ×
    (IsLawful config before × IsRefusedAt config requests before refused)
