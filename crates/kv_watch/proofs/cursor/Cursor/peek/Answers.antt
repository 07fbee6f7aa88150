use Rattle.std.proofs.Common.{reverse, refl, sym, ap, ◌∙◌, Some}
use Rattle.std.specs.List.{slice_get}
use Rattle.kv_model.specs.Given.{AnEntry, Entry}
use Rattle.kv_watch.proofs.Owing.{is_given}
use Rattle.kv_watch.proofs.Placing.{peek_owed, peek_marker, peek_live}
use Rattle.kv_watch.proofs.Reaching.{ahead_same}
use Rattle.kv_watch.proofs.cursor.Cursor.peek.Goals as goal

pub returns-in-Some : goal.returns-in-Some
returns-in-Some c = rw (← c.self.view_is) (λ n began acts opening is at.
    let self = c.self.inside in
    let there = is_given _ opening _ self.owed.items c.in-Some.revision.now (rw c.deref.ensures.value at (sym c.in-Some.ensures.value)) refl is in
    c.initial_at.ensures opening there
    ∙ peek_owed began acts opening c.args.now.now self.filters self.options n c.in-Some.revision.now self.owed.items self.marker self.seen self.next self.handed at.place (rw c.deref.ensures.value at (sym c.in-Some.ensures.value)))

pub returns-then-self : goal.returns-then-self
returns-then-self c = rw (← c.self.view_is) (λ n began acts opening is at.
    let self = c.self.inside in
    sym (peek_marker began acts opening c.args.now.now self.filters self.options n self.owed.items self.marker self.seen self.next self.handed at.place (rw c.deref.ensures.value at (sym c.in_default.ensures.value)) c.if-self.true))

pub returns-in-Some-next_live : goal.returns-in-Some-next_live
returns-in-Some-next_live c = rw (← c.self.view_is) (λ n began acts opening is at.
    let self = c.self.inside in
    ap (λ (e : Entry). Some (AnEntry e)) c.new.ensures
    ∙ sym (peek_live began acts opening c.args.now.now self.filters self.options n self.owed.items self.marker self.seen self.next self.handed at.place (rw c.deref.ensures.value at (sym c.in_default.ensures.value)) c.if-self.false
    ∙ ap (λ items. slice_get items 0) (sym (ahead_same n began acts opening c.args.now.now (record { filters = self.filters; options = self.options; owed = reverse self.owed.items; marker = self.marker; seen = self.seen; next = self.next; handed = self.handed }) at) ∙ c.in-Some-next_live.ensures.first acts at.place.now_stands)))

pub returns-in-None : goal.returns-in-None
returns-in-None c = rw (← c.self.view_is) (λ n began acts opening is at.
    let self = c.self.inside in
    sym (peek_live began acts opening c.args.now.now self.filters self.options n self.owed.items self.marker self.seen self.next self.handed at.place (rw c.deref.ensures.value at (sym c.in_default.ensures.value)) c.if-self.false
    ∙ ap (λ items. slice_get items 0) (sym (ahead_same n began acts opening c.args.now.now (record { filters = self.filters; options = self.options; owed = reverse self.owed.items; marker = self.marker; seen = self.seen; next = self.next; handed = self.handed }) at) ∙ c.in-None.ensures.first acts at.place.now_stands)))
