-- What stays of a map.
use Rattle.std.specs.Prelude.{◌≡◌, ℕ, ◌<◌, nat_lt, Bool, true, false, ◌||◌, ◌&&◌, cond, List, length, Option, Some, None}
use Rattle.std.proofs.Common.{take, get_or}
use Rattle.std.specs.List.{filter}
use Rattle.std.specs.declared.cmp.Ordering.{Ordering}
use Rattle.kv_trie.specs.declared.node.Node.{Node}
use Rattle.kv_trie.specs.Form.{Slots, Each, node_pairs, IsNode}
use Rattle.kv_trie.specs.Stored.{shape_of, child_slots}

-- whether a pair is wanted
abbrev pub is_wanted : {K V : Type 0} → (K → V → Bool) → K × V → Bool
is_wanted wanted p = wanted p.0 p.1

-- the value of a pair, if there is one and it is wanted
abbrev pub wanted_value : {K V : Type 0} → (K → V → Bool) → Option (K × V) → Option V
wanted_value wanted None = None
wanted_value wanted (Some p) = cond (is_wanted wanted p) (Some p.1) None

-- the first pair that is not wanted is at i
pub record IsUnwantedAt {P : Type 0} (keep : P → Bool) (pairs : List P) (i : ℕ) : Type 0 where
  pub within : i < length pairs
  pub before : Each (λ p. keep p ≡ true) (take i pairs)
  pub unwanted : (d : P) → keep (get_or pairs i d) ≡ false

-- whether the pair at a place is wanted, where the first that is not is known
abbrev pub stays_at : {P : Type 0} → (P → Bool) → (first i : ℕ) → P → Bool
stays_at keep first i p = nat_lt i first || (nat_lt first i && keep p)

module _ {K V : Type 0} where
  -- the children of a branch as far as they have changed: its own, as long as none has
  abbrev pub slots_so_far : Option (List (Node K V)) → Slots (K × V) → Slots (K × V)
  slots_so_far None slots = slots
  slots_so_far (Some rest) slots = child_slots rest

  -- the pairs of what a node may have become, where it had these
  abbrev pub pairs_left : List (K × V) → Option (Node K V) → List (K × V)
  pairs_left pairs None = pairs
  pairs_left pairs (Some node) = node_pairs (shape_of node)

  -- what a node may have become is a form, where it has changed
  abbrev pub IsFormLeft : (K → K → Ordering) → (K → ℕ) → ℕ → Option (Node K V) → Type 0
  IsFormLeft cmp place left None = Unit {0}
  IsFormLeft cmp place left (Some node) = IsNode cmp place left (shape_of node)

  -- what may have become of the node has the pairs that are wanted, and is their form
  pub record IsRetained (cmp : K → K → Ordering) (place : K → ℕ) (keep : K × V → Bool) (left : ℕ)
      (pairs : List (K × V)) (new : Option (Node K V)) : Type 0 where
    pub form : IsFormLeft cmp place left new
    pub kept : pairs_left pairs new ≡ filter keep pairs
