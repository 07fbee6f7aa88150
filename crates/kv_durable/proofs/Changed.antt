-- A seal and a compaction of a durable bucket.
use Rattle.std.proofs.Common.{◌≡◌, ℕ, Bool, List, [], ◌∷◌, ◌++◌, Ok, sym, ap, subst}
use Rattle.kv_model.specs.Acts.{Act, Compact}
use Rattle.kv_model.specs.State.{State, after, after_compact, may_compact}
use Rattle.kv_model.specs.declared.call.Call.{Call}
use Rattle.kv_model.specs.declared.call.Call.TheVariants as calls
use Rattle.kv_store.specs.Stored.{Stored}
use Rattle.kv_single.specs.Held.{Represents}
use Rattle.kv_journal.specs.Records.{Content, did}
use Rattle.kv_durable.specs.Journals.{IsFrameOf}
use Rattle.kv_durable.specs.declared.durable.Durable.{Durable}
use Rattle.kv_durable.proofs.Recording.{Told, told_one}

module _ {F : Type 0} (has : F → List ℕ → List ℕ → Type 0) (usable : F → Bool) where
  -- a call that is accepted as this act, from each state
  pub changed : (call : Call) (told : State → List Content) (old new : Durable F) (bytes : List ℕ) (act : Act) (version : Stored) → IsFrameOf old.journal (did act) bytes
      → ((state : State) → Represents state old.bucket → told state ≡ did act ∷ [])
      → ((state : State) → Represents state old.bucket → (after state call).config ≡ state.config)
      → ((state : State) → Represents state old.bucket → (after state call).acts ≡ state.acts ++ act ∷ [])
      → ((state : State) → Represents state old.bucket → Represents (after state call) (record old.bucket { version = version })) → new.bucket ≡ record old.bucket { version = version }
      → Told has usable (λ state. after state call) told old new bytes
  changed call told old new bytes act version frame tells config acts step is = λ state r.
      told_one has usable (λ s. after s call) told old new bytes state act (tells state r) frame (config state r) (acts state r) (subst (Represents (after state call)) (sym is) (step state r))

-- what a compaction that is allowed adds
pub compacts : (floor : ℕ) (state : State) → may_compact floor state ≡ Ok floor → ((after state (calls.Compact floor)).config ≡ state.config) × ((after state (calls.Compact floor)).acts ≡ state.acts ++ Compact floor ∷ [])
compacts floor state may =
    let later = ap (after_compact state) may in
    (ap (λ (s : State). s.config) later, ap (λ (s : State). s.acts) later)
