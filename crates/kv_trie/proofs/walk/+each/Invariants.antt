use Rattle.std.proofs.Common.{◌≡◌, ◌<◌, take, length}
use Rattle.std.specs.List.{flat_map}
use Rattle.kv_trie.specs.Form.{node_pairs}
use Rattle.kv_trie.specs.Shown.{Shown}
use Rattle.kv_trie.specs.Stored.{shape_of}
use Rattle.kv_trie.proofs.walk.+each.Given as goal

abbrev pub decreases-each : goal.decreases-each
decreases-each g l = goal.size-each g l

abbrev pub invariant-loop-child : goal.invariant-loop-child
invariant-loop-child g l =
    (0 < l.child-index → length l.child-items ≡ 32)
    × Shown g.W.Visit.shows (flat_map (λ c. node_pairs (shape_of c)) (take l.child-index l.child-items)) l.initial.visitor l.visitor

abbrev pub invariant-loop-child-2 : goal.invariant-loop-child-2
invariant-loop-child-2 g l =
    (0 < l.child-index → length l.child-items ≡ 4)
    × Shown g.W.Visit.shows (flat_map (λ c. node_pairs (shape_of c)) (take l.child-index l.child-items)) l.initial.visitor l.visitor
