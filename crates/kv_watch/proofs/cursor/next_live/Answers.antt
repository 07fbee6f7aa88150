use Rattle.std.proofs.Common.{◌≡◌, ◌-◌, max, sym, ap, ◌∙◌, arith}
use Rattle.kv_watch.specs.Following.{shown_behind}
use Rattle.kv_watch.proofs.Walks.{live_here, live_next, live_skip, live_past, live_end}
use Rattle.kv_watch.proofs.cursor.next_live.Goals as goal

pub loop-place-init : goal.loop-place-init
loop-place-init c = λ acts s.
    let first : max c.args.seen c.args.now.now.floor ≡ c.max-place.result = ap (max c.args.seen) (sym c.floor.ensures.value) ∙ sym c.max-place.ensures in (
      ap (λ k. shown_behind k acts c.args.filters.now c.args.options) first,
      (omega (arith, first), omega (arith, first)),
    )

pub returns-in_default-clause-first : goal.returns-in_default-clause-first
returns-in_default-clause-first c = λ acts s.
    let here = c.loop-place.invariant acts s in
    here.0 ∙ live_past acts c.args.now.now s c.args.filters.now c.args.options c.loop-place.place here.1.0 (sym (c.in_default.ensures.acts acts s))

pub returns-then-is_shown-clause-first : goal.returns-then-is_shown-clause-first
returns-then-is_shown-clause-first c = λ acts s.
    let here = c.loop-place.invariant acts s in
    here.0
    ∙ live_next acts c.args.now.now s c.args.filters.now c.args.options c.loop-place.place c.in-Some.write.now here.1.0 (sym (c.in-Some.ensures.acts acts s)) (sym c.is_shown.ensures ∙ c.if-is_shown.true)

pub returns-then-is_shown-clause-skipped : goal.returns-then-is_shown-clause-skipped
returns-then-is_shown-clause-skipped c = λ acts s.
    let here = c.loop-place.invariant acts s in
    let there = live_here acts c.args.now.now s c.loop-place.place c.in-Some.write.now here.1.0 (sym (c.in-Some.ensures.acts acts s)) in
    let before : c.in-Some.write.now.revision - 1 ≡ c.loop-place.place = omega (arith, there.0) in (
      ap (λ r. shown_behind r acts c.args.filters.now c.args.options) before ∙ sym here.0,
      omega (arith, there.0, here.1.1),
      omega (arith, there.0, there.1),
    )

pub loop-place-preserved : goal.loop-place-preserved
loop-place-preserved c = λ acts s.
    let here = c.loop-place.invariant acts s in (
      here.0 ∙ live_skip acts c.args.now.now s c.args.filters.now c.args.options c.loop-place.place c.in-Some.write.now here.1.0 (sym (c.in-Some.ensures.acts acts s)) (sym c.is_shown.ensures ∙ c.if-is_shown.false),
      (omega (arith, here.1.0), omega (arith, here.1.1)),
    )

pub returns-clause-first : goal.returns-clause-first
returns-clause-first c = λ acts s.
    (c.loop-place.invariant acts s).0
    ∙ live_end acts c.args.now.now s c.args.filters.now c.args.options c.loop-place.place (omega (arith, c.loop-place-test.false, c.revision-place-end.ensures.acts acts s))
