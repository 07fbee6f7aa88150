use Rattle.std.proofs.Common.{◌-◌, ◌+◌, ◌≡◌, map, length, suc, refl, sym, subst, ap, ap₂, ◌∙◌, arith}
use Rattle.std.proofs.lemmas.List.{length-map, length-set}
use Rattle.kv_trie.specs.Form.{child_at}
use Rattle.kv_trie.specs.Stored.{shape_of, slots_at}
use Rattle.kv_trie.specs.inside.Few.{Rises}
use Rattle.kv_trie.proofs.Spots.{last_gap, moved, first_gap, settled, kept_length}
use Rattle.kv_trie.proofs.branch.make_place.Goals as goal

pub loop-moved-init : goal.loop-moved-init
loop-moved-init g c =
    let few = c.args.few.now in
    let m : length few.indices ≡ 4 = omega arith in
    let k : length few.children ≡ 4 = omega arith in
    let n : length (map shape_of few.children) ≡ 4 = omega (arith, k, length-map few.children shape_of) in
    (m, k, refl, last_gap c.args.at 3 few.indices (map shape_of few.children) m n c.requires.room)

pub returns-then-not-goes_behind-clause-slots : goal.returns-then-not-goes_behind-clause-slots
returns-then-not-goes_behind-clause-slots g c =
    let few = c.loop-moved.few in
    let i = c.loop-moved.invariant in
    let gap : 3 - c.loop-moved.moved ≡ suc (3 - c.loop-moved.moved - 1) = omega (arith, c.loop-moved-test.true) in
    let s = settled c.args.at (3 - c.loop-moved.moved) (3 - c.loop-moved.moved - 1) few.indices (map shape_of few.children) gap i.3 (c.goes_behind.ensures.before c.if-not-goes_behind.true) (subst (Rises 0) (sym i.2) c.requires.indices) (ap (child_at c.args.at) i.2 ∙ c.requires.absent) in
    s.1 ∙ i.2

pub returns-then-not-goes_behind-clause-spot : goal.returns-then-not-goes_behind-clause-spot
returns-then-not-goes_behind-clause-spot g c =
    let few = c.loop-moved.few in
    let i = c.loop-moved.invariant in
    let gap : 3 - c.loop-moved.moved ≡ suc (3 - c.loop-moved.moved - 1) = omega (arith, c.loop-moved-test.true) in
    let s = settled c.args.at (3 - c.loop-moved.moved) (3 - c.loop-moved.moved - 1) few.indices (map shape_of few.children) gap i.3 (c.goes_behind.ensures.before c.if-not-goes_behind.true) (subst (Rises 0) (sym i.2) c.requires.indices) (ap (child_at c.args.at) i.2 ∙ c.requires.absent) in
    s.0

pub loop-moved-preserved : goal.loop-moved-preserved
loop-moved-preserved g c =
    let few = c.loop-moved.few in
    let i = c.loop-moved.invariant in
    let gap = 3 - c.loop-moved.moved in
    let from = 3 - c.loop-moved.moved - 1 in
    let up : gap ≡ suc from = omega (arith, c.loop-moved-test.true) in
    let same : 3 - (c.loop-moved.moved + 1) ≡ from = omega (arith, c.loop-moved-test.true) in
    let m = moved c.args.at gap from few.indices (map shape_of few.children) up i.3 (c.goes_behind.ensures.behind c.if-not-goes_behind.false) (subst (Rises 0) (sym i.2) c.requires.indices) in (
      ap length c.move_child.ensures.indices ∙ length-set few.indices gap _ ∙ i.0,
      kept_length shape_of few.children c.move_child.new.few.children from gap _ _ c.move_child.ensures.children ∙ i.1,
      ap₂ slots_at c.move_child.ensures.indices c.move_child.ensures.children ∙ m.1 ∙ i.2,
      rw (same, c.move_child.ensures.indices, c.move_child.ensures.children) m.0,
    )

pub returns-clause-slots : goal.returns-clause-slots
returns-clause-slots g c =
    let few = c.loop-moved.few in
    let i = c.loop-moved.invariant in
    let end : 3 - c.loop-moved.moved ≡ 0 = omega (arith, c.loop-moved-test.false) in
    (first_gap c.args.at few.indices (map shape_of few.children) (rw end at i.3)).1 ∙ i.2

pub returns-clause-spot : goal.returns-clause-spot
returns-clause-spot g c =
    let few = c.loop-moved.few in
    let i = c.loop-moved.invariant in
    let end : 3 - c.loop-moved.moved ≡ 0 = omega (arith, c.loop-moved-test.false) in
    (first_gap c.args.at few.indices (map shape_of few.children) (rw end at i.3)).0
