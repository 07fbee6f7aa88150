use Rattle.std.proofs.Common.{◌≡◌, [], ◌∷◌, ◌++◌, take}
use Rattle.std.specs.Arc.{arc_value}
use Rattle.std.specs.List.{flat_map}
use Rattle.kv_trie.specs.Numbered.{lent, numbered_pair}
use Rattle.kv_trie.proofs.walk.add_listed.Given as goal

abbrev pub invariant-loop-pair : goal.invariant-loop-pair
invariant-loop-pair g l = lent l.found.items ≡ lent l.initial.found.items ++ flat_map (numbered_pair (g.A.Numbers.number l.asker)) (flat_map (λ p. arc_value p ∷ []) (take l.pair-index l.pairs))
