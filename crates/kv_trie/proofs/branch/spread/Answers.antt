use Rattle.std.proofs.Common.{◌-◌, ◌+◌, ◌<◌, ◌≡◌, map, length, get_or, suc, None, ap, ap₂, ◌∙◌, sym, arith}
use Rattle.std.proofs.lemmas.List.{length-map, length-set, get_or-map}
use Rattle.kv_trie.specs.Form.{with_or_without}
use Rattle.kv_trie.specs.Stored.{shape_of, slots_from}
use Rattle.kv_trie.proofs.Slots.{slots_from-set}
use Rattle.kv_trie.proofs.Spots.{there_at, none_at, spread_none, spread_some}
use Rattle.kv_trie.proofs.branch.spread.Goals as goal
use Rattle.kv_trie.proofs.branch.spread.Goals.{then-not-is_empty+in_ok-share_at, else-not-is_empty}

pub loop-done-preserved : goal.loop-done-preserved
loop-done-preserved g c =
    let few = c.args.few.now in
    let old = c.loop-done.children in
    let spot = 3 - c.loop-done.done in
    let after = 4 - c.loop-done.done in
    let up : after ≡ suc spot = omega (arith, c.loop-done-test.true) in
    let down : 4 - (c.loop-done.done + 1) ≡ spot = omega (arith, c.loop-done-test.true) in
    let within : spot < length few.children = omega (arith, c.loop-done-test.true) in
    let mapped : spot < length (map shape_of few.children) = omega (arith, within, length-map few.children shape_of) in
    let indexed : spot < length few.indices = omega (arith, c.loop-done-test.true) in
    elim c.if-not-is_empty.branch [
      | then-not-is_empty+in_ok-share_at w ↦
          let there = there_at few.children spot c.index-few-spot.result within c.is_empty.result c.is_empty.ensures w.if-not-is_empty.true in
          let s = spread_some spot after few.indices (map shape_of few.children) up indexed mapped there c.requires.indices in
          let x = get_or-map shape_of few.children spot w.index-few-spot-then-not-is_empty.result None within in
          let i = get_or few.indices spot 0 in
          let room : i < length (map shape_of old) = omega (arith, s.0, c.loop-done.invariant.0, length-map old shape_of) in
          rw (w.children-is, down) (
            sym (length-map w.share_at.new.children shape_of) ∙ ap length w.in_ok-share_at.ensures ∙ length-set (map shape_of old) i _ ∙ length-map old shape_of ∙ c.loop-done.invariant.0,
            ap (slots_from 0) w.in_ok-share_at.ensures ∙ slots_from-set i 0 i (map shape_of old) _ (omega arith) room ∙ ap₂ (with_or_without i) (sym x) c.loop-done.invariant.1 ∙ sym s.1,
          )
      | else-not-is_empty w ↦
          let none = none_at few.children spot c.index-few-spot.result within c.is_empty.result c.is_empty.ensures w.if-not-is_empty.false in
          rw (w.children-is, down) (c.loop-done.invariant.0, c.loop-done.invariant.1 ∙ sym (spread_none spot after few.indices (map shape_of few.children) up indexed mapped none))
    ]
