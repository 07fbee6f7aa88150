use Rattle.std.proofs.Common.{ℕ, refl, sym, ap, subst, ◌∙◌, ◌+◌}
use Rattle.std.specs.Option.{option_len}
use Rattle.kv_watch.specs.Following.{Following, InReach, given_to}
use Rattle.kv_watch.specs.Taking.{item_taken}
use Rattle.kv_watch.proofs.Lists.{none_at_end}
use Rattle.kv_watch.proofs.Passing.{is_item, no_more, same_filters, same_options}
use Rattle.kv_watch.proofs.Placing.{passed_event}
use Rattle.kv_watch.proofs.Reaching.{reach_behind}
use Rattle.kv_watch.proofs.cursor.Cursor.take.Goals as goal

pub returns-in-Some-clause-filters : goal.returns-in-Some-clause-filters
returns-in-Some-clause-filters c = ap (λ (cursor : Following). cursor.filters) c.step.ensures ∙ same_filters c.in-Some.event c.args.self.now

pub returns-in-Some-clause-options : goal.returns-in-Some-clause-options
returns-in-Some-clause-options c = ap (λ (cursor : Following). cursor.options) c.step.ensures ∙ same_options c.in-Some.event c.args.self.now

pub returns-in-Some-clause-next : goal.returns-in-Some-clause-next
returns-in-Some-clause-next c = c.peek-taken.ensures

pub returns-in-Some-clause-end : goal.returns-in-Some-clause-end
returns-in-Some-clause-end c = λ n began acts opening is at.
    let all = given_to opening.config.history began acts c.args.self.now in
    let found = c.peek-taken.ensures n began acts opening is at in
    let ends = none_at_end all n at.place.taken in
    (λ none. ends.0 (sym found ∙ none), λ e. found ∙ ends.1 e)

pub returns-in-Some-clause-in_reach : goal.returns-in-Some-clause-in_reach
returns-in-Some-clause-in_reach c = λ n began acts opening is at.
    let self = c.args.self.now in
    let item = item_taken c.peek-taken.result in
    subst (λ (cursor : Following). InReach began acts (n + option_len item) opening c.args.now.now cursor) (sym c.step.ensures)
    (reach_behind n (option_len item) began acts opening c.args.now.now self c.in-Some.event at (passed_event began acts opening c.args.now.now self.filters self.options n self.owed self.marker self.seen self.next self.handed item c.in-Some.event at.place (c.peek-taken.ensures n began acts opening is at) (sym c.event.ensures ∙ c.in-Some.is)))

pub returns-in-Some-clause-none : goal.returns-in-Some-clause-none
returns-in-Some-clause-none c = λ none. absurd (is_item (item_taken c.peek-taken.result) c.in-Some.event (sym c.event.ensures ∙ c.in-Some.is) none)

pub returns-in_default-clause-filters : goal.returns-in_default-clause-filters
returns-in_default-clause-filters c = refl

pub returns-in_default-clause-options : goal.returns-in_default-clause-options
returns-in_default-clause-options c = refl

pub returns-in_default-clause-next : goal.returns-in_default-clause-next
returns-in_default-clause-next c = c.peek-taken.ensures

pub returns-in_default-clause-end : goal.returns-in_default-clause-end
returns-in_default-clause-end c = λ n began acts opening is at.
    let all = given_to opening.config.history began acts c.args.self.now in
    let found = c.peek-taken.ensures n began acts opening is at in
    let ends = none_at_end all n at.place.taken in
    (λ none. ends.0 (sym found ∙ none), λ e. found ∙ ends.1 e)

pub returns-in_default-clause-in_reach : goal.returns-in_default-clause-in_reach
returns-in_default-clause-in_reach c = λ n began acts opening is at.
    subst (λ (k : ℕ). InReach began acts k opening c.args.now.now c.args.self.now) (no_more n (item_taken c.peek-taken.result) c.in_default.ensures) at

pub returns-in_default-clause-none : goal.returns-in_default-clause-none
returns-in_default-clause-none c = λ none. refl
