-- What lies under the lock of a durable bucket that threads share.
use Rattle.std.specs.Prelude.{◌≡◌, ℕ, Bool, List}
use Rattle.kv_bucket.specs.Keeping.{KeeperState}
use Rattle.kv_durable.specs.Durables as durables
use Rattle.kv_durable.specs.declared.durable.Durable.{Durable}
use Rattle.kv_durable.specs.declared.journal.Journal.{Journal}
use Rattle.kv_journal.specs.Entries.{Entry}
use Rattle.kv_model.specs.State.{State}

-- the bucket under the lock with its file, as one that nobody shares
abbrev pub durable_of : {F : Type 0} → KeeperState → Journal F → Durable F
durable_of kept journal = record { bucket = kept.bucket; journal = journal }

-- It is at a state and at the entries of its file, as a durable bucket is. What is published are the acts of the state, so those
-- of the entries: nothing is published that is not in the file.
pub record IsAt {F : Type 0} (has : F → List ℕ → List ℕ → Type 0) (usable : F → Bool) (state : State) (entries loose : List Entry) (kept : KeeperState) (journal : Journal F) : Type 0 where
  pub durable : durables.IsAt has usable state entries loose (durable_of kept journal)
  pub published : kept.published ≡ state.acts
