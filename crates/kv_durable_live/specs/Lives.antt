-- A life of a durable bucket that threads share, and what of it comes back.
use Rattle.std.specs.Prelude.{◌≡◌, ℕ, Bool, List, [], ◌∷◌}
use Rattle.kv_bucket.specs.Keeping.{KeeperState}
use Rattle.kv_durable.specs.Lives.{Follows}
use Rattle.kv_durable.specs.declared.journal.Journal.{Journal}
use Rattle.kv_durable_live.specs.Sharing.{IsAt}
use Rattle.kv_file.specs.declared.appender.Sync.TheVariants.{Each}
use Rattle.kv_journal.specs.Entries.{Entry}
use Rattle.kv_model.specs.Acts.{IsPrefix}
use Rattle.kv_model.specs.State.{State}

-- what lies under the lock
pub record Shared (F : Type 0) : Type 0 where
  pub kept : KeeperState
  pub journal : Journal F

abbrev pub shared_of : {F : Type 0} → KeeperState → Journal F → Shared F
shared_of kept journal = record { kept = kept; journal = journal }

-- A call that was answered: whatever the value was at, it is at some state and entries that go on from it: nothing that was on
-- the disk has gone, nor was anything taken back from the file, or all that was in it stands in a checkpoint. Nothing was taken
-- back from what is published. Where each act is synced and nothing was loose, nothing is.
abbrev pub GoesOn : {F : Type 0} → (F → List ℕ → List ℕ → Type 0) → (F → Bool) → Shared F → Shared F → Type 0
GoesOn has usable old new = (state : State) (entries loose : List Entry) (at : IsAt has usable state entries loose old.kept old.journal) →
    (later : State) × (k : List Entry) × (l : List Entry) × (next : IsAt has usable later k l new.kept new.journal)
    × Follows at.durable.base entries loose next.durable.base k l × IsPrefix old.kept.published new.kept.published
    × (old.journal.appender.sync ≡ Each → loose ≡ [] → l ≡ []) × (new.journal.appender.sync ≡ old.journal.appender.sync)

-- such calls in a row
abbrev pub Lives : {F : Type 0} → (F → List ℕ → List ℕ → Type 0) → (F → Bool) → List (Shared F) → Shared F → Shared F → Type 0
Lives has usable [] old new = new ≡ old
Lives has usable (next ∷ more) old new = GoesOn has usable old next × Lives has usable more next new
