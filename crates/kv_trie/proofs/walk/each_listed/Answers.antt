use Rattle.std.proofs.Common.{[], ◌∷◌, refl, subst, arith}
use Rattle.std.specs.Arc.{arc_value}
use Rattle.std.proofs.lemmas.List.Concat.{flat_map_single}
use Rattle.kv_trie.specs.Shown.{Shown, WasRefused}
use Rattle.kv_trie.proofs.Showing.{Shown-part, Refused-part, Shown-all, refused_alone}
use Rattle.kv_trie.proofs.walk.each_listed.Goals as goal

pub returns-in-Err : goal.returns-in-Err
returns-in-Err g c =
    let h = rw (c.deref.ensures, c.deref-in-loop-pair.ensures) at c.in-Err.ensures in
    let r = Refused-part g.W.Visit.shows (λ p. arc_value p ∷ []) c.args.pairs.now c.loop-pair.pair-index c.pair-item.result c.loop-pair-test.true c.pair-item.is c.in-Err.error c.args.visitor.now c.loop-pair.visitor c.pair.new.self c.loop-pair.invariant (refused_alone g.W.Visit.shows c.in-Err.error (arc_value c.pair-item.result) c.loop-pair.visitor c.pair.new.self h) in
    subst (λ l. WasRefused g.W.Visit.shows c.in-Err.error l c.args.visitor.now c.pair.new.self) (flat_map_single arc_value c.args.pairs.now) r

pub loop-pair-preserved : goal.loop-pair-preserved
loop-pair-preserved g c =
    let h = rw (c.deref.ensures, c.deref-in-loop-pair.ensures) at c.in-Ok.ensures in
    Shown-part g.W.Visit.shows (λ p. arc_value p ∷ []) c.args.pairs.now c.loop-pair.pair-index c.pair-item.result c.loop-pair-test.true c.pair-item.is c.args.visitor.now c.loop-pair.visitor c.pair.new.self c.loop-pair.invariant (c.pair.new.self, h, refl)

pub returns : goal.returns
returns g c =
    subst (λ l. Shown g.W.Visit.shows l c.args.visitor.now c.loop-pair.visitor) (flat_map_single arc_value c.args.pairs.now) (Shown-all g.W.Visit.shows (λ p. arc_value p ∷ []) c.args.pairs.now c.loop-pair.pair-index c.args.visitor.now c.loop-pair.visitor (omega arith) c.loop-pair.invariant)
