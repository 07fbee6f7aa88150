-- Where the children of a small branch stand.
use Rattle.std.specs.Prelude.{◌≡◌, ℕ, suc, ◌<◌, ◌≤◌, List, [], ◌∷◌, map, Bool, true, false, Option, Some, None, is_some, slice_index_or}
use Rattle.std.proofs.Common.{zero}
use Rattle.kv_trie.specs.declared.branch.Few.{Few}
use Rattle.kv_trie.specs.declared.node.Node.{Node}
use Rattle.kv_trie.specs.Form.{Shape, Slots, branch, none, more, child_at}
use Rattle.kv_trie.specs.Stored.{shape_of, slots_at, few_slots}

-- the children of a branch; a node that is none has none
abbrev pub slots_of : {P : Type 0} → Option (Shape P) → Slots P
slots_of (Some (branch slots)) = slots
slots_of s = none

-- whether a node is a branch
abbrev pub has_slots : {P : Type 0} → Option (Shape P) → Bool
has_slots (Some (branch slots)) = true
has_slots s = false

-- the indices ascend from `low` on, and each is below 32
abbrev pub Rises : {P : Type 0} → ℕ → Slots P → Type 0
Rises low none = Unit {0}
Rises low (more i child slots) = (low ≤ i) × (i < 32) × Rises (suc i) slots

-- a child of this index belongs at the place: those before it have lower indices, and those behind it higher ones
abbrev pub IsSpot : {P : Type 0} → (at spot : ℕ) → List ℕ → List (Option (Shape P)) → Type 0
IsSpot at spot [] children = ⊥
IsSpot at spot (i ∷ indices) [] = ⊥
IsSpot at zero (i ∷ indices) (c ∷ children) = (i ≡ at) × Rises (suc at) (slots_at indices children)
IsSpot at (suc spot) (i ∷ indices) (None ∷ children) = IsSpot at spot indices children
IsSpot at (suc spot) (i ∷ indices) (Some c ∷ children) = (i < at) × IsSpot at spot indices children

-- what stands at the place is none, or has a higher index
abbrev pub IsBehind : {P : Type 0} → (at spot : ℕ) → List ℕ → List (Option (Shape P)) → Type 0
IsBehind at spot [] children = ⊥
IsBehind at spot (i ∷ indices) [] = ⊥
IsBehind at zero (i ∷ indices) (None ∷ children) = Unit {0}
IsBehind at zero (i ∷ indices) (Some c ∷ children) = at < i
IsBehind at (suc spot) (i ∷ indices) (c ∷ children) = IsBehind at spot indices children

-- what stands at the place is a child of this index or a lower one
abbrev pub IsBefore : {P : Type 0} → (at spot : ℕ) → List ℕ → List (Option (Shape P)) → Type 0
IsBefore at spot [] children = ⊥
IsBefore at spot (i ∷ indices) [] = ⊥
IsBefore at zero (i ∷ indices) (None ∷ children) = ⊥
IsBefore at zero (i ∷ indices) (Some c ∷ children) = i ≤ at
IsBefore at (suc spot) (i ∷ indices) (c ∷ children) = IsBefore at spot indices children

module _ {K V : Type 0} where
  -- the child of the index stands at the place
  pub record IsChildAt (few : Few (List (Node K V))) (at spot : ℕ) : Type 0 where
    pub within : spot < 4
    pub index : slice_index_or few.indices spot 0 ≡ at
    pub child : slice_index_or (map shape_of few.children) spot None ≡ child_at at (few_slots few)
    pub some : is_some (child_at at (few_slots few)) ≡ true

  -- the last place is free
  abbrev pub HasRoom : Few (List (Node K V)) → Type 0
  HasRoom few = slice_index_or (map shape_of few.children) 3 None ≡ None

  -- both have the same children at the same places
  pub record IsCopy (old new : Few (List (Node K V))) : Type 0 where
    pub indices : new.indices ≡ old.indices
    pub children : map shape_of new.children ≡ map shape_of old.children
