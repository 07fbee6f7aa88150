-- A checkpoint of what lies under the lock.
use Rattle.std.proofs.Common.{◌≡◌, ℕ, Bool, List, refl}
use Rattle.kv_bucket.specs.Keeping.{KeeperState}
use Rattle.kv_durable.proofs.Replacing.{still_at}
use Rattle.kv_durable.specs.Bases.{Base}
use Rattle.kv_durable.specs.Journals.{Keeps}
use Rattle.kv_durable.specs.declared.journal.Journal.{Journal}
use Rattle.kv_durable_live.specs.Sharing.{IsAt, durable_of}
use Rattle.kv_journal.specs.Entries.{Entry}
use Rattle.kv_model.specs.State.{State}

-- the old file is in use
pub is_still : {F : Type 0} (has : F → List ℕ → List ℕ → Type 0) (usable : F → Bool) (kept : KeeperState) (old new : Journal F) → ((base : Base) (entries loose : List Entry) → Keeps has usable base entries loose old → Keeps has usable base entries loose new)
    → (state : State) (ks ls : List Entry) (at : IsAt has usable state ks ls kept old) → (next : IsAt has usable state ks ls kept new) × (next.durable.base ≡ at.durable.base)
is_still has usable kept old new on = λ state ks ls at.
    let there = still_at has usable (durable_of kept old) (durable_of kept new) refl on state ks ls at.durable in
    (record { durable = there.0; published = at.published }, there.1)
