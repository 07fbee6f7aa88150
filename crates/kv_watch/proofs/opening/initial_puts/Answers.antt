use Rattle.std.proofs.Common.{filter, ap, ◌∙◌}
use Rattle.kv_store.proofs.Outcomes.{still_ok}
use Rattle.kv_watch.specs.inside.Showing.{is_put_at}
use Rattle.kv_watch.proofs.Opened.{puts_selected}
use Rattle.kv_watch.proofs.opening.initial_puts.Goals as goal

pub returns-in-Latest : goal.returns-in-Latest
returns-in-Latest c =
    rw c.in-Latest.is (still_ok _ _ c.puts_where.result c.map_err.result c.map_err.ensures.cases c.puts_where.ensures.ok)

pub returns-in_ok-found-in-History : goal.returns-in_ok-found-in-History
returns-in_ok-found-in-History c = λ acts s.
    c.drop_markers.ensures
    ∙ ap (filter (is_put_at c.args.base.now)) (c.in_ok-found-in-History.ensures acts s)
    ∙ puts_selected acts c.args.base.now s c.args.filters.now c.args.start
