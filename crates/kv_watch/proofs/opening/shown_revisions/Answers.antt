use Rattle.std.proofs.Common.{cond, filter, sym, ap, ◌∙◌}
use Rattle.kv_model.specs.Acts.{is_put}
use Rattle.kv_model.specs.Given.{initial, matching}
use Rattle.kv_model.specs.Retained.{revisions}
use Rattle.kv_store.proofs.Outcomes.{then_ok}
use Rattle.kv_watch.proofs.Opened.{owed_shown}
use Rattle.kv_watch.proofs.opening.shown_revisions.Goals as goal

pub returns-then-options : goal.returns-then-options
returns-then-options c =
    let options = c.args.options in
    then_ok c.initial_puts.result _ _ c.initial_puts.ensures (λ found same acts s.
    let ws = matching c.args.filters.now (initial c.args.base.now.config.history options.start acts) in
    same acts s ∙ ap (λ b. cond b (revisions (filter (λ w. is_put w.op) ws)) (revisions ws)) (sym c.if-options.true) ∙ owed_shown options.start options.ignore_deletes options.headers_only ws)

pub returns-else-options : goal.returns-else-options
returns-else-options c =
    let options = c.args.options in
    then_ok c.initial_revisions.result _ _ c.initial_revisions.ensures (λ found same acts s.
    let ws = matching c.args.filters.now (initial c.args.base.now.config.history options.start acts) in
    same acts s ∙ ap (λ b. cond b (revisions (filter (λ w. is_put w.op) ws)) (revisions ws)) (sym c.if-options.false) ∙ owed_shown options.start options.ignore_deletes options.headers_only ws)
