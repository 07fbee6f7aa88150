use Rattle.std.proofs.Common.{◌≡◌, ◌<◌, ◌++◌, take, length}
use Rattle.std.specs.List.{flat_map}
use Rattle.kv_trie.specs.Form.{node_pairs}
use Rattle.kv_trie.specs.Numbered.{lent, numbered_pair}
use Rattle.kv_trie.specs.Stored.{shape_of}
use Rattle.kv_trie.proofs.walk.+add_numbered.Given as goal

abbrev pub decreases-add_numbered : goal.decreases-add_numbered
decreases-add_numbered g l = goal.size-add_numbered g l

abbrev pub invariant-loop-child : goal.invariant-loop-child
invariant-loop-child g l =
    (0 < l.child-index → length l.child-items ≡ 32)
    × (lent l.found.items ≡ lent l.initial.found.items ++ flat_map (numbered_pair (g.A.Numbers.number l.asker)) (flat_map (λ c. node_pairs (shape_of c)) (take l.child-index l.child-items)))

abbrev pub invariant-loop-child-2 : goal.invariant-loop-child-2
invariant-loop-child-2 g l =
    (0 < l.child-index → length l.child-items ≡ 4)
    × (lent l.found.items ≡ lent l.initial.found.items ++ flat_map (numbered_pair (g.A.Numbers.number l.asker)) (flat_map (λ c. node_pairs (shape_of c)) (take l.child-index l.child-items)))
