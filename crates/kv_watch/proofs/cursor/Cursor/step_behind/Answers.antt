use Rattle.std.proofs.Common.{◌≡◌, [], reverse, refl, sym, ap, subst, ◌+◌, ◌∙◌, arith}
use Rattle.kv_watch.specs.Following.{Following, InReach}
use Rattle.kv_watch.proofs.Owing.{owes_none}
use Rattle.kv_watch.proofs.Passing.{same_filters, same_options}
use Rattle.kv_watch.proofs.Placing.{passed_by, looked_by}
use Rattle.kv_watch.proofs.Reaching.{reach_behind, reach_further}
use Rattle.kv_watch.proofs.cursor.Cursor.step_behind.Goals as goal

pub returns-in-Some-clause-filters : goal.returns-in-Some-clause-filters
returns-in-Some-clause-filters c = ap (λ (cursor : Following). cursor.filters) c.step.ensures ∙ same_filters c.in-Some.event c.args.self.now

pub returns-in-Some-clause-options : goal.returns-in-Some-clause-options
returns-in-Some-clause-options c = ap (λ (cursor : Following). cursor.options) c.step.ensures ∙ same_options c.in-Some.event c.args.self.now

pub returns-in-Some-clause-none : goal.returns-in-Some-clause-none
returns-in-Some-clause-none c = λ none. let e = sym none ∙ c.in-Some.is in cc

pub returns-in-Some-clause-in_reach : goal.returns-in-Some-clause-in_reach
returns-in-Some-clause-in_reach c = rw c.in-Some.is (λ n began acts base at e.
    let self = c.args.self.now in
    subst (λ (cursor : Following). InReach began acts (n + 1) base c.args.now.now cursor) (sym c.step.ensures)
    (reach_behind n 1 began acts base c.args.now.now self c.in-Some.event at
    (passed_by began acts base c.args.now.now self.filters self.options n self.owed self.marker self.seen self.next self.handed c.in-Some.event at.place e)))

pub returns-in-None-clause-in_reach : goal.returns-in-None-clause-in_reach
returns-in-None-clause-in_reach c = rw (c.in-None.is, ← c.self.view_is, c.revision-self-inside.ensures.value) (λ n began acts base at e.
    let self = c.self.inside in
    let place = looked_by began acts base c.args.now.now self.filters self.options n (reverse self.owed.items) self.marker self.seen self.next self.handed at.place e in
    reach_further n (n + 0) began acts base c.args.now.now _ _ at place (omega arith) refl refl)

pub returns-in-Some-clause-owes : goal.returns-in-Some-clause-owes
returns-in-Some-clause-owes c = λ none. subst (λ (cursor : Following). cursor.owed ≡ []) (sym c.step.ensures) (owes_none c.in-Some.event c.args.self.now none)
