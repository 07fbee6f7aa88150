use Rattle.std.proofs.Common.{◌≡◌, ◌-◌, ◌∙◌, sym, ap, arith, length}
use Rattle.kv_watch.specs.Following.{shown_behind}
use Rattle.kv_model.specs.Acts.{writes_of}
use Rattle.kv_watch.proofs.Walks.{live_end}
use Rattle.std.specs.Prelude.{is_some}
use Rattle.std.specs.List.{slice_get}
use Rattle.kv_watch.proofs.Placing.{some_owed, peek_marker, peek_live}
use Rattle.kv_watch.proofs.Reaching.{ahead_same, nothing_left, reach_settled}
use Rattle.kv_watch.proofs.cursor.Cursor.settle.Goals as goal

pub returns-in-Some-clause-found : goal.returns-in-Some-clause-found
returns-in-Some-clause-found c = rw (← c.self.view_is) (λ n began acts base at.
    let self = c.self.inside in
    sym (some_owed began acts base c.args.now.now self.filters self.options n c.in-Some.field-0.now self.owed.items self.marker self.seen self.next self.handed at.place (rw c.deref.ensures.value at (sym c.in-Some.ensures.value))))

pub returns-then-self-clause-found : goal.returns-then-self-clause-found
returns-then-self-clause-found c = rw (← c.self.view_is) (λ n began acts base at.
    let self = c.self.inside in
    ap is_some (sym (peek_marker began acts base c.args.now.now self.filters self.options n self.owed.items self.marker self.seen self.next self.handed at.place (rw c.deref.ensures.value at (sym c.in_default.ensures.value)) c.if-self.true)))

pub returns-in-Some-next_live-clause-in_reach : goal.returns-in-Some-next_live-clause-in_reach
returns-in-Some-next_live-clause-in_reach c = rw (← c.self.view_is) (λ n began acts base at.
    let there = c.in-Some-next_live.ensures.skipped acts at.place.now_stands in
    let before : c.saturating_sub-self-inside.result ≡ c.in-Some-next_live.write.now.revision - 1 = c.saturating_sub-self-inside.ensures ∙ ap (λ r. r - 1) c.revision.ensures in
    reach_settled n began acts base c.args.now.now _ c.saturating_sub-self-inside.result at
    (ap (λ r. shown_behind r acts c.self.inside.filters c.self.inside.options) before ∙ there.0 ∙ ahead_same n began acts base c.args.now.now _ at)
    (omega (arith, before, there.1)) (omega (arith, before, there.2)))

pub returns-in-Some-next_live-clause-found : goal.returns-in-Some-next_live-clause-found
returns-in-Some-next_live-clause-found c = rw (← c.self.view_is) (λ n began acts base at.
    let self = c.self.inside in
    ap is_some (sym (peek_live began acts base c.args.now.now self.filters self.options n self.owed.items self.marker self.seen self.next self.handed at.place (rw c.deref.ensures.value at (sym c.in_default.ensures.value)) c.if-self.false
    ∙ ap (λ items. slice_get items 0) (sym (ahead_same n began acts base c.args.now.now _ at) ∙ c.in-Some-next_live.ensures.first acts at.place.now_stands))))

pub returns-in-Some-next_live-clause-looked : goal.returns-in-Some-next_live-clause-looked
returns-in-Some-next_live-clause-looked c = rw (← c.self.view_is) (λ n began acts base at e.
    let none = sym (c.in-Some-next_live.ensures.first acts at.place.now_stands) ∙ nothing_left n began acts base c.args.now.now _ at e in cc)

pub returns-in-None-clause-in_reach : goal.returns-in-None-clause-in_reach
returns-in-None-clause-in_reach c = rw (← c.self.view_is) (λ n began acts base at.
    let last : c.revision-self-inside.result ≡ length (writes_of acts) = c.revision-self-inside.ensures.acts acts at.place.now_stands in
    reach_settled n began acts base c.args.now.now _ c.revision-self-inside.result at
    (live_end acts c.args.now.now at.place.now_stands c.self.inside.filters c.self.inside.options c.revision-self-inside.result (omega (arith, last))
    ∙ sym (c.in-None.ensures.first acts at.place.now_stands) ∙ ahead_same n began acts base c.args.now.now _ at)
    (omega (arith, last, at.place.seen)) (omega (arith, last)))

pub returns-in-None-clause-found : goal.returns-in-None-clause-found
returns-in-None-clause-found c = rw (← c.self.view_is) (λ n began acts base at.
    let self = c.self.inside in
    ap is_some (sym (peek_live began acts base c.args.now.now self.filters self.options n self.owed.items self.marker self.seen self.next self.handed at.place (rw c.deref.ensures.value at (sym c.in_default.ensures.value)) c.if-self.false
    ∙ ap (λ items. slice_get items 0) (sym (ahead_same n began acts base c.args.now.now _ at) ∙ c.in-None.ensures.first acts at.place.now_stands))))
