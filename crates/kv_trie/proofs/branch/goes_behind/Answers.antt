use Rattle.std.proofs.Common.{◌<◌, ◌≤◌, map, get_or, length, arith}
use Rattle.std.proofs.lemmas.Bool.Decides.{nat_tests}
use Rattle.std.proofs.lemmas.List.{length-map}
use Rattle.kv_trie.specs.Stored.{shape_of}
use Rattle.kv_trie.proofs.Spots.{there_at, none_at, behind_none, behind_some, before_some}
use Rattle.kv_trie.proofs.branch.goes_behind.Goals as goal

pub returns-then-is_empty-clause-behind : goal.returns-then-is_empty-clause-behind
returns-then-is_empty-clause-behind g c = λ yes.
    let few = c.args.few.now in
    let spot = c.args.spot in
    let within : spot < length few.children = omega (arith, c.requires) in
    let mapped : spot < length (map shape_of few.children) = omega (arith, within, length-map few.children shape_of) in
    let indexed : spot < length few.indices = omega (arith, c.requires) in
    behind_none c.args.at spot few.indices (map shape_of few.children) indexed mapped (none_at few.children spot c.index-few-spot.result within c.is_empty.result c.is_empty.ensures yes)

pub returns-else-is_empty-clause-behind : goal.returns-else-is_empty-clause-behind
returns-else-is_empty-clause-behind g c = λ yes.
    let few = c.args.few.now in
    let spot = c.args.spot in
    let within : spot < length few.children = omega (arith, c.requires) in
    let mapped : spot < length (map shape_of few.children) = omega (arith, within, length-map few.children shape_of) in
    let indexed : spot < length few.indices = omega (arith, c.requires) in
    let less : c.args.at < get_or few.indices spot 0 = grind (arith, nat_tests) in
    behind_some c.args.at spot few.indices (map shape_of few.children) indexed mapped less

pub returns-else-is_empty-clause-before : goal.returns-else-is_empty-clause-before
returns-else-is_empty-clause-before g c = λ no.
    let few = c.args.few.now in
    let spot = c.args.spot in
    let within : spot < length few.children = omega (arith, c.requires) in
    let mapped : spot < length (map shape_of few.children) = omega (arith, within, length-map few.children shape_of) in
    let indexed : spot < length few.indices = omega (arith, c.requires) in
    let there = there_at few.children spot c.index-few-spot.result within c.is_empty.result c.is_empty.ensures c.if-is_empty.false in
    let least : get_or few.indices spot 0 ≤ c.args.at = grind (arith, nat_tests) in
    before_some c.args.at spot few.indices (map shape_of few.children) indexed mapped there least
