use Rattle.std.proofs.Common.{◌+◌, ◌<◌, ◌≡◌, map, length, suc, ap, ap₂, ◌∙◌, arith}
use Rattle.std.proofs.lemmas.List.{length-map, length-set}
use Rattle.kv_trie.specs.Stored.{shape_of, slots_at}
use Rattle.kv_trie.proofs.Spots.{none_at, closed, kept_length}
use Rattle.kv_trie.proofs.branch.close.Goals as goal
use Rattle.kv_trie.proofs.branch.close.Goals.{then-is_empty, else-is_empty}

pub loop-to-preserved : goal.loop-to-preserved
loop-to-preserved g c =
    let few = c.loop-to.few in
    let to = c.loop-to.to in
    let within : to < length few.children = omega (arith, c.loop-to-test.true, c.loop-to.invariant.1) in
    let mapped : to + 1 < length (map shape_of few.children) = omega (arith, c.loop-to-test.true, c.loop-to.invariant.1, length-map few.children shape_of) in
    let indexed : to + 1 < length few.indices = omega (arith, c.loop-to-test.true, c.loop-to.invariant.0) in
    let next : to + 1 ≡ suc to = omega arith in
    elim c.if-is_empty.branch [
      | then-is_empty w ↦
          let none = none_at few.children to c.index-few-to.result within c.is_empty.result c.is_empty.ensures w.if-is_empty.true in
          let same = closed to (to + 1) few.indices (map shape_of few.children) next indexed mapped none in
          rw w.few-is (
            ap length w.move_child.ensures.indices ∙ length-set few.indices to _ ∙ c.loop-to.invariant.0,
            kept_length shape_of few.children w.move_child.new.few.children (to + 1) to _ _ w.move_child.ensures.children ∙ c.loop-to.invariant.1,
            ap₂ slots_at w.move_child.ensures.indices w.move_child.ensures.children ∙ same ∙ c.loop-to.invariant.2,
          )
      | else-is_empty w ↦ rw w.few-is c.loop-to.invariant
    ]
