use Rattle.std.proofs.Common.{◌<◌, map, length, sym, ap, ◌∙◌, is_some, arith}
use Rattle.kv_trie.specs.Stored.{shape_of}
use Rattle.kv_trie.proofs.Spots.{there_at, none_at, from_found, from_next, from_other}
use Rattle.std.proofs.lemmas.List.{length-map}
use Rattle.kv_trie.proofs.branch.spot_of.Goals as goal
use Rattle.kv_trie.proofs.branch.spot_of.Goals.{else-few-spot-via-then-few-spot+else-not-is_empty, else-few-spot-via-else-few-spot}

pub returns-then-not-is_empty : goal.returns-then-not-is_empty
returns-then-not-is_empty g c =
    let few = c.args.few.now in
    let spot = c.loop-spot.spot in
    let within : spot < length few.children = omega (arith, c.loop-spot-test.true) in
    let mapped : spot < length (map shape_of few.children) = omega (arith, within, length-map few.children shape_of) in
    let indexed : spot < length few.indices = omega (arith, c.loop-spot-test.true) in
    let there = there_at few.children spot c.index-few-spot.result within c.is_empty.result c.is_empty.ensures c.if-not-is_empty.true in
    let found = c.loop-spot.invariant ∙ from_found c.args.at spot few.indices (map shape_of few.children) indexed mapped c.if-few-spot.true there in
    record { within = c.loop-spot-test.true; index = c.if-few-spot.true; child = sym found; some = ap is_some found ∙ there }

pub loop-spot-preserved : goal.loop-spot-preserved
loop-spot-preserved g c =
    let few = c.args.few.now in
    let spot = c.loop-spot.spot in
    let indexed : spot < length few.indices = omega (arith, c.loop-spot-test.true) in
    elim c.else-few-spot.branch [
      | else-few-spot-via-then-few-spot+else-not-is_empty w ↦
          let within : spot < length few.children = omega (arith, c.loop-spot-test.true) in
          let mapped : spot < length (map shape_of few.children) = omega (arith, within, length-map few.children shape_of) in
          c.loop-spot.invariant ∙ from_next c.args.at spot few.indices (map shape_of few.children) indexed mapped (none_at few.children spot w.index-few-spot.result within w.is_empty.result w.is_empty.ensures w.if-not-is_empty.false)
      | else-few-spot-via-else-few-spot w ↦ c.loop-spot.invariant ∙ from_other c.args.at spot few.indices (map shape_of few.children) indexed w.if-few-spot.false
    ]
