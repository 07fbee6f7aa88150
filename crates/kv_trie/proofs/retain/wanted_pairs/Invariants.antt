use Rattle.std.proofs.Common.{◌≡◌, take, map}
use Rattle.std.specs.Arc.{arc_value}
use Rattle.std.specs.List.{filter}
use Rattle.kv_trie.specs.Retain.{is_wanted}
use Rattle.kv_trie.proofs.retain.wanted_pairs.Given as goal

abbrev pub invariant-loop-at : goal.invariant-loop-at
invariant-loop-at g l = map arc_value l.kept.items ≡ filter (is_wanted (g.W.Wants.wanted l.wants)) (take l.at (map arc_value l.pairs))
