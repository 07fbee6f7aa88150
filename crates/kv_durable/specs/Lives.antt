-- A life of a durable bucket, the crash that ends it, and the next life.
use Rattle.std.specs.Prelude.{◌≡◌, ◌⊎◌, ℕ, Bool, List, [], ◌∷◌, ◌++◌, take}
use Rattle.kv_model.specs.Acts.{Act, IsPrefix}
use Rattle.kv_model.specs.State.{State}
use Rattle.kv_single.specs.Held.{Represents}
use Rattle.kv_journal.specs.Entries.{Entry, acts_of}
use Rattle.kv_durable.specs.Bases.{Base, acts_before}
use Rattle.kv_durable.specs.Durables.{IsAt, state_of}
use Rattle.kv_durable.specs.declared.durable.Durable.{Durable}

-- What a bucket is at goes on from what it was at: from the same base on, nothing that was on the disk has gone and nothing was
-- taken back; or all acts that were there stand before the base, in whose place there is a checkpoint.
abbrev pub Follows : (old : Base) (kept loose : List Entry) (new : Base) (k l : List Entry) → Type 0
Follows old kept loose new k l =
    ((new ≡ old) × IsPrefix kept k × IsPrefix (kept ++ loose) (k ++ l))
    ⊎ IsPrefix (acts_before old ++ acts_of (kept ++ loose)) (acts_before new)

-- A call of a durable bucket that was answered, and leads from each state to this one: whatever the bucket was at, it is at
-- that state, and goes on from that.
abbrev pub GoesOn : {F : Type 0} → (F → List ℕ → List ℕ → Type 0) → (F → Bool) → (State → State) → Durable F → Durable F → Type 0
GoesOn has usable later old new = (state : State) (kept loose : List Entry) (at : IsAt has usable state kept loose old) →
    (k : List Entry) × (l : List Entry) × (next : IsAt has usable (later state) k l new) × Follows at.base kept loose next.base k l

-- such calls in a row
abbrev pub Lives : {F : Type 0} → (F → List ℕ → List ℕ → Type 0) → (F → Bool) → List (State → State) → Durable F → Durable F → Type 0
Lives has usable [] old new = new ≡ old
Lives {F} has usable (later ∷ more) old new = (next : Durable F) × GoesOn has usable later old next × Lives has usable more next new

-- the state that they lead to
abbrev pub lived : List (State → State) → State → State
lived [] state = state
lived (later ∷ more) state = lived more (later state)

-- A bucket has come back: it represents a state with no watch, whose acts begin with all those of the first entries, and are a
-- beginning of those of all: they are those of a beginning of the entries, so of a batch all are there or none.
pub record ComesBack {F : Type 0} (base : Base) (kept maybe : List Entry) (acts : List Act) (durable : Durable F) : Type 0 where
  pub represents : Represents (state_of base.config acts) durable.bucket
  pub all_kept : IsPrefix (acts_before base ++ acts_of kept) acts
  pub no_other : IsPrefix acts (acts_before base ++ acts_of (kept ++ maybe))
  pub whole : (k : ℕ) × (acts ≡ acts_before base ++ acts_of (kept ++ take k maybe))

-- of acts that were told at once all have come back, or none: the acts are a beginning of those before, or begin with those
-- behind
abbrev pub IsAllOrNone : (before behind acts : List Act) → Type 0
IsAllOrNone before behind acts = IsPrefix acts before ⊎ IsPrefix behind acts
