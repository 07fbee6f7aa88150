use Rattle.std.proofs.Common.{◌<◌, ◌++◌, [], ◌∷◌, length, map, take, get_or, refl, ap, sym, ◌∙◌, arith}
use Rattle.std.proofs.lemmas.List.{take_all, take_more, take_more_set, map-append, length-set}
use Rattle.kv_trie.specs.Stored.{shape_of, slots_from}
use Rattle.kv_trie.proofs.branch.share.Goals as goal

pub loop-at-init : goal.loop-at-init
loop-at-init g c = (c.told-children, refl)

pub loop-at-preserved : goal.loop-at-preserved
loop-at-preserved g c =
    let xs = c.args.others.now in
    let ys = c.loop-at.children in
    let i = c.loop-at.at in
    let x = c.index-others-at.result in
    let y = c.in_ok-children.field-0 in
    let there : i < length xs = omega (arith, c.loop-at-test.true, c.type_inv.others) in
    let here : i < length ys = omega (arith, c.loop-at-test.true, c.loop-at.invariant.0) in
    let those = ap (map shape_of) (take_more xs i x there) ∙ map-append shape_of (take i xs) (get_or xs i x ∷ []) in
    let these = ap (map shape_of) (take_more_set ys i y here) ∙ map-append shape_of (take i ys) (y ∷ []) in (
      length-set ys i y ∙ c.loop-at.invariant.0,
      these ∙ ap (λ l. l ++ shape_of y ∷ []) c.loop-at.invariant.1 ∙ ap (λ s. map shape_of (take i xs) ++ s ∷ []) c.in_ok-children.ensures.cases ∙ sym those,
    )

pub returns : goal.returns
returns g c =
    let xs = c.args.others.now in
    let ys = c.loop-at.children in
    let i = c.loop-at.at in
    let those = take_all i xs (omega (arith, c.loop-at-test.false, c.type_inv.others)) in
    let these = take_all i ys (omega (arith, c.loop-at-test.false, c.loop-at.invariant.0)) in
    ap (slots_from 0) (ap (map shape_of) (sym these) ∙ c.loop-at.invariant.1 ∙ ap (map shape_of) those)
