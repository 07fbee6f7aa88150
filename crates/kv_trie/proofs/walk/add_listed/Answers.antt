use Rattle.std.proofs.Common.{◌≤◌, ◌++◌, [], ◌∷◌, length, ap, ◌∙◌, arith}
use Rattle.std.specs.Arc.{arc_value}
use Rattle.std.specs.List.{flat_map}
use Rattle.std.proofs.lemmas.List.{take_all}
use Rattle.std.proofs.lemmas.List.Concat.{flat_map_single}
use Rattle.kv_trie.specs.Numbered.{lent, numbered_pair}
use Rattle.kv_trie.proofs.walk.add_listed.Goals as goal

pub returns : goal.returns
returns g c =
    let pairs = c.args.pairs.now in
    let all : length pairs ≤ c.loop-pair.pair-index = omega arith in
    c.loop-pair.invariant
    ∙ ap (λ l. lent c.args.found.now.items ++ flat_map (numbered_pair (g.A.Numbers.number c.args.asker.now)) l) (ap (flat_map (λ p. arc_value p ∷ [])) (take_all c.loop-pair.pair-index pairs all) ∙ flat_map_single arc_value pairs)
