use Rattle.std.proofs.Common.{ℕ, ◌+◌, sym, ap, subst, ◌∙◌}
use Rattle.std.specs.Option.{option_len, option_map}
use Rattle.kv_model.specs.further.Events.{event_of}
use Rattle.kv_watch.specs.Following.{Following, InReach}
use Rattle.kv_watch.specs.Taking.{item_taken}
use Rattle.kv_watch.proofs.Passing.{as_many}
use Rattle.kv_watch.proofs.cursor.Cursor.take_settled.Goals as goal

pub returns-clause-filters : goal.returns-clause-filters
returns-clause-filters c = c.step_behind.ensures.filters

pub returns-clause-options : goal.returns-clause-options
returns-clause-options c = c.step_behind.ensures.options

pub returns-clause-next : goal.returns-clause-next
returns-clause-next c = c.peek-taken.ensures

pub returns-clause-in_reach : goal.returns-clause-in_reach
returns-clause-in_reach c = λ n began acts opening is at.
    subst (λ (k : ℕ). InReach began acts (n + k) opening c.args.now.now c.step_behind.new.self) (ap option_len c.event.ensures ∙ as_many (item_taken c.peek-taken.result))
    (c.step_behind.ensures.in_reach n began acts opening at (c.event.ensures ∙ ap (option_map event_of) (c.peek-taken.ensures n began acts opening is at)))

pub returns-clause-none : goal.returns-clause-none
returns-clause-none c = λ none.
    let kept = c.step_behind.ensures.none (c.event.ensures ∙ ap (option_map event_of) none) in
    kept ∙ ap (λ (seen : ℕ). record c.args.self.now { seen = seen }) (sym (ap (λ (cursor : Following). cursor.seen) kept))

pub returns-clause-looked : goal.returns-clause-looked
returns-clause-looked c = λ none n began acts opening is at.
    ap (λ (cursor : Following). cursor.seen) (c.step_behind.ensures.none (c.event.ensures ∙ ap (option_map event_of) none))

pub returns-clause-owes : goal.returns-clause-owes
returns-clause-owes c = c.step_behind.ensures.owes
