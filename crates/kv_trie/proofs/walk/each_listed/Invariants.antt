use Rattle.std.proofs.Common.{[], ◌∷◌, take}
use Rattle.std.specs.Arc.{arc_value}
use Rattle.std.specs.List.{flat_map}
use Rattle.kv_trie.specs.Shown.{Shown}
use Rattle.kv_trie.proofs.walk.each_listed.Given as goal

abbrev pub invariant-loop-pair : goal.invariant-loop-pair
invariant-loop-pair g l = Shown g.W.Visit.shows (flat_map (λ p. arc_value p ∷ []) (take l.pair-index l.pairs)) l.initial.visitor l.visitor
