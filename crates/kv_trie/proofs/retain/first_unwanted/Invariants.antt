use Rattle.std.proofs.Common.{◌≡◌, true, take, map}
use Rattle.std.specs.Arc.{arc_value}
use Rattle.kv_trie.specs.Form.{Each}
use Rattle.kv_trie.specs.Retain.{is_wanted}
use Rattle.kv_trie.proofs.retain.first_unwanted.Given as goal

abbrev pub invariant-loop-at : goal.invariant-loop-at
invariant-loop-at g l = Each (λ p. is_wanted (g.W.Wants.wanted l.wants) p ≡ true) (take l.at (map arc_value l.pairs))
