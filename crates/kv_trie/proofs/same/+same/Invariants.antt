use Rattle.std.proofs.Common.{◌≡◌, ℕ, ◌<◌, ◌+◌, ◌*◌, true}
use Rattle.kv_trie.specs.Form.{child_at}
use Rattle.kv_trie.specs.Same.{same_key, same_node}
use Rattle.kv_trie.specs.Stored.{shape_of}
use Rattle.kv_trie.specs.inside.Few.{slots_of}
use Rattle.kv_trie.proofs.same.+same.Given as goal

abbrev pub decreases-same_nodes : goal.decreases-same_nodes
decreases-same_nodes g l = 3 * l.left + 2

abbrev pub decreases-same_below : goal.decreases-same_below
decreases-same_below g l = 3 * l.left + 1

abbrev pub decreases-same_at : goal.decreases-same_at
decreases-same_at g l = 3 * l.left

abbrev pub invariant-same_below-loop-at : goal.invariant-same_below-loop-at
invariant-same_below-loop-at g l =
    (j : ℕ) → j < l.at → same_node (same_key g.K.Ord.cmp) (child_at j (slots_of (shape_of l.node))) (child_at j (slots_of (shape_of l.other))) ≡ true
