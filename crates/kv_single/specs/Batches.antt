-- What a batch makes of a bucket, and calls in a row.
use Rattle.std.specs.Prelude.{◌≡◌, ℕ, List, Ok, map}
use Rattle.kv_model.specs.Acts.{Write}
use Rattle.kv_model.specs.Batches.{accept_all, after_batch, first_revision}
use Rattle.kv_model.specs.Requests.{asked}
use Rattle.kv_model.specs.Runs.{run}
use Rattle.kv_model.specs.State.{State}
use Rattle.kv_model.specs.declared.call.Call.{Call}
use Rattle.kv_model.specs.declared.request.Request.{Request}
use Rattle.kv_single.specs.Held.{Bucketed, Represents}

-- from every state that the bucket represents the requests are accepted, each behind those before it; the bucket
-- represents the state with their writes, and answered the revision of the first
abbrev pub IsBatch : Bucketed → List Request → ℕ → Bucketed → Type 0
IsBatch old requests first new = (state : State) → Represents state old →
    (ws : List Write) × ((accept_all state.config (map asked requests) state.acts ≡ Ok ws)
    × ((first ≡ first_revision state.acts ws) × Represents (after_batch state (Ok ws)) new))

-- these calls in a row lead the one bucket to the other: that represents the state that the model comes to by them
abbrev pub LeadThere : List Call → Bucketed → Bucketed → Type 0
LeadThere calls old new = (state : State) → Represents state old → Represents (run state calls) new
