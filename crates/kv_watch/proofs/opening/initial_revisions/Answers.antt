use Rattle.kv_store.proofs.Outcomes.{still_ok}
use Rattle.kv_watch.proofs.opening.initial_revisions.Goals as goal

pub returns-in-Latest : goal.returns-in-Latest
returns-in-Latest c = still_ok _ _ c.revisions_where-found.result c.map_err.result c.map_err.ensures.cases c.revisions_where-found.ensures.ok
