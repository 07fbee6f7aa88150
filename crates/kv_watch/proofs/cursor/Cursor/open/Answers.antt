use Rattle.kv_watch.proofs.Opened.{opened}
use Rattle.kv_watch.proofs.Reaching.{reach_opened}
use Rattle.kv_watch.proofs.cursor.Cursor.open.Goals as goal

pub returns-clause-in_reach : goal.returns-clause-in_reach
returns-clause-in_reach c = λ acts s.
    let seen = c.revision-seen.ensures.acts acts s in
    let place = opened acts c.args.base.now s c.args.filters.now c.args.options _ c.owes_marker.result c.revision-seen.result c.saturating_add.result (c.in_ok-owed.ensures acts s) c.owes_marker.ensures seen c.saturating_add.ensures in
    rw c.in_ok-filters.ensures.ok (reach_opened acts c.args.base.now _ place seen)
