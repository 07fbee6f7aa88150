use Rattle.std.proofs.Common.{◌<◌, map, length, ap, ◌∙◌, is_some, arith}
use Rattle.std.proofs.lemmas.List.{length-map}
use Rattle.kv_trie.specs.Stored.{shape_of}
use Rattle.kv_trie.proofs.Spots.{spot_from}
use Rattle.kv_trie.proofs.branch.open.Goals as goal

pub returns-in-Some-clause-spot : goal.returns-in-Some-clause-spot
returns-in-Some-clause-spot g c =
    let few = c.args.few.now in
    let at = c.in-Some.ensures in
    let indexed : c.in-Some.spot < length few.indices = omega (arith, at.within) in
    let mapped : c.in-Some.spot < length (map shape_of few.children) = omega (arith, at.within, length-map few.children shape_of) in
    spot_from c.args.at c.in-Some.spot few.indices (map shape_of few.children) indexed mapped at.index (ap is_some at.child ∙ at.some) c.requires.indices
