-- What a batch leaves of a version.
use Rattle.std.specs.Prelude.{◌≡◌, ◌≤◌, ℕ, List, Ok, take}
use Rattle.kv_model.specs.Acts.{Act, Write}
use Rattle.kv_model.specs.Batches.{accept_all, after_all}
use Rattle.kv_model.specs.Requests.{Asked}
use Rattle.kv_store.specs.Standing.{StandsFor}
use Rattle.kv_store.specs.Stored.{Stored}

-- behind all acts that the old version stands for the requests are accepted, and the new one stands for the acts with
-- their writes
abbrev pub Leaves : List Asked → Stored → Stored → Type 0
Leaves requests old new = (acts : List Act) → StandsFor acts old →
    (ws : List Write) × ((accept_all old.config requests acts ≡ Ok ws) × StandsFor (after_all acts ws) new)

-- each beginning of the requests, up to so many of them, leaves some version
abbrev pub LeavesEach : List Asked → ℕ → Stored → Type 0
LeavesEach requests n old = (k : ℕ) → k ≤ n →
    (version : Stored) × ((version.config ≡ old.config) × Leaves (take k requests) old version)
