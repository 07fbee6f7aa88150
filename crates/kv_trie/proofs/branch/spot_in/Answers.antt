use Rattle.std.proofs.Common.{◌<◌, map, length, ap, sym, ◌∙◌, is_some, arith}
use Rattle.kv_trie.specs.Stored.{shape_of}
use Rattle.kv_trie.proofs.Spots.{spot_from, some_within}
use Rattle.kv_trie.proofs.branch.spot_in.Goals as goal

pub returns-clause-spot : goal.returns-clause-spot
returns-clause-spot g c =
    let few = c.args.few.now in
    let at = c.in-Some.ensures in
    let indexed : c.in-Some.spot < length few.indices = omega (arith, at.within) in
    let there = ap is_some at.child ∙ at.some in
    spot_from c.args.at c.in-Some.spot few.indices (map shape_of few.children) indexed (some_within (map shape_of few.children) c.in-Some.spot there) at.index there c.requires.indices

pub unreachable-requires : goal.unreachable-requires
unreachable-requires g c = let bad = sym (ap is_some c.in-None.ensures) ∙ c.requires.there in cc
