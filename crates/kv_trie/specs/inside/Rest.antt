-- What the children of a branch make.
use Rattle.std.specs.Prelude.{◌≡◌, ◌<◌, List, map, length, false, Some, None}
use Rattle.std.specs.List.{slice_get}
use Rattle.kv_trie.specs.declared.node.Node.{Node}
use Rattle.kv_trie.specs.declared.remove.Rest.{Rest}
use Rattle.kv_trie.specs.declared.remove.Rest.TheVariants.{Nothing, Leaf, Branch}
use Rattle.kv_trie.specs.Form.{branch, whole}
use Rattle.kv_trie.specs.inside.Few.{has_slots}
use Rattle.kv_trie.specs.Stored.{shape_of, child_slots}

module _ {K V : Type 0} where
  -- this is what the children make
  abbrev pub IsRest : List (Node K V) → Rest → Type 0
  IsRest children Nothing = whole (child_slots children) ≡ None
  IsRest children (Leaf at) = (at < length children) × (slice_get (map shape_of children) at ≡ Some (whole (child_slots children)))
      × (has_slots (whole (child_slots children)) ≡ false)
  IsRest children Branch = whole (child_slots children) ≡ Some (branch (child_slots children))
