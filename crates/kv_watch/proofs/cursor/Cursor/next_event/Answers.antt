use Rattle.std.proofs.Common.{sym, ap, ◌∙◌, Some}
use Rattle.std.specs.List.{slice_get}
use Rattle.std.specs.Option.{option_map}
use Rattle.kv_model.specs.declared.event.Event.TheVariants as events
use Rattle.kv_model.specs.further.Events.{event_of}
use Rattle.kv_watch.proofs.Placing.{owed_event, peek_marker, peek_live}
use Rattle.kv_watch.proofs.Reaching.{ahead_same}
use Rattle.kv_watch.proofs.cursor.Cursor.next_event.Goals as goal

pub returns-in-Some : goal.returns-in-Some
returns-in-Some c = rw (← c.self.view_is) (λ n began acts base at.
    let self = c.self.inside in
    owed_event began acts base c.args.now.now self.filters self.options n c.in-Some.revision.now self.owed.items self.marker self.seen self.next self.handed at.place (rw c.deref.ensures.value at (sym c.in-Some.ensures.value)))

pub returns-then-self : goal.returns-then-self
returns-then-self c = rw (← c.self.view_is) (λ n began acts base at.
    let self = c.self.inside in
    ap (option_map event_of) (sym (peek_marker began acts base c.args.now.now self.filters self.options n self.owed.items self.marker self.seen self.next self.handed at.place (rw c.deref.ensures.value at (sym c.in_default.ensures.value)) c.if-self.true)))

pub returns-in-Some-next_live : goal.returns-in-Some-next_live
returns-in-Some-next_live c = rw (← c.self.view_is) (λ n began acts base at.
    let self = c.self.inside in
    ap (λ r. Some (events.Entry r)) c.revision.ensures
    ∙ ap (option_map event_of) (sym (peek_live began acts base c.args.now.now self.filters self.options n self.owed.items self.marker self.seen self.next self.handed at.place (rw c.deref.ensures.value at (sym c.in_default.ensures.value)) c.if-self.false
    ∙ ap (λ items. slice_get items 0) (sym (ahead_same n began acts base c.args.now.now _ at) ∙ c.in-Some-next_live.ensures.first acts at.place.now_stands))))

pub returns-in-None : goal.returns-in-None
returns-in-None c = rw (← c.self.view_is) (λ n began acts base at.
    let self = c.self.inside in
    ap (option_map event_of) (sym (peek_live began acts base c.args.now.now self.filters self.options n self.owed.items self.marker self.seen self.next self.handed at.place (rw c.deref.ensures.value at (sym c.in_default.ensures.value)) c.if-self.false
    ∙ ap (λ items. slice_get items 0) (sym (ahead_same n began acts base c.args.now.now _ at) ∙ c.in-None.ensures.first acts at.place.now_stands))))
