use Rattle.std.proofs.Common.{◌-◌, ◌+◌, ◌<◌, ◌≤◌, ◌≡◌, map, length, suc, None, drop, sym, subst, ap, ◌∙◌, arith}
use Rattle.std.proofs.lemmas.List.{length-map, get_or-map, drop_all}
use Rattle.kv_trie.specs.Form.{with_or_without}
use Rattle.kv_trie.specs.Stored.{shape_of, slots_from, slots_at}
use Rattle.kv_trie.specs.inside.Few.{Rises}
use Rattle.kv_trie.proofs.Spots.{none_at, spot_set, gathered, gathered_none, rises_part}
use Rattle.kv_trie.proofs.branch.few_of.Goals as goal
use Rattle.kv_trie.proofs.branch.few_of.Goals.{then-not-is_empty+else-not-has_room+in_ok-share_at, else-not-is_empty}

pub loop-done-init : goal.loop-done-init
loop-done-init g c =
    let end : length (map shape_of c.args.children.now) ≤ 32 = omega (arith, c.type_inv.children, length-map c.args.children.now shape_of) in
    c.no_few-few.ensures ∙ sym (ap (slots_from 32) (drop_all 32 (map shape_of c.args.children.now) end))

pub open-spot-requires : goal.open-spot-requires
open-spot-requires g c =
    let children = c.args.children.now in
    let low = 32 - c.loop-done.done in
    let end : 0 + length (map shape_of children) ≤ 32 = omega (arith, c.type_inv.children, length-map children shape_of) in
    let same : low ≡ 0 + low = omega arith in
    let rises = subst (Rises 0) (sym c.loop-done.invariant) (rises_part 0 low low (map shape_of children) same end) in
    (omega arith, (omega (arith, c.loop-done-test.true), (rises, (λ _. c.has_room.ensures c.if-not-has_room.false))))

pub loop-done-preserved : goal.loop-done-preserved
loop-done-preserved g c =
    let children = c.args.children.now in
    let at = 31 - c.loop-done.done in
    let after = 32 - c.loop-done.done in
    let up : after ≡ suc at = omega (arith, c.loop-done-test.true) in
    let down : 32 - (c.loop-done.done + 1) ≡ at = omega (arith, c.loop-done-test.true) in
    let within : at < length children = omega (arith, c.loop-done-test.true, c.type_inv.children) in
    let mapped : at < length (map shape_of children) = omega (arith, within, length-map children shape_of) in
    elim c.if-not-is_empty.branch [
      | then-not-is_empty+else-not-has_room+in_ok-share_at w ↦
          let new = w.open-spot.new.few in
          let x = get_or-map shape_of children at w.index-children-at-then-not-is_empty.result None within in
          rw (w.few-is, down) (
          ap (slots_at new.indices) w.in_ok-share_at.ensures
          ∙ spot_set at w.open-spot.result new.indices (map shape_of new.children) _ w.open-spot.ensures.spot
          ∙ ap (with_or_without at _) (w.open-spot.ensures.slots ∙ c.loop-done.invariant)
          ∙ ap (λ s. with_or_without at s (slots_from after (drop after (map shape_of children)))) (sym x)
          ∙ sym (gathered at after (map shape_of children) up mapped)
          )
      | else-not-is_empty w ↦
          let none = none_at children at c.index-children-at.result within c.is_empty.result c.is_empty.ensures w.if-not-is_empty.false in
          rw (w.few-is, down) (c.loop-done.invariant ∙ sym (gathered_none at after (map shape_of children) up mapped none))
    ]
