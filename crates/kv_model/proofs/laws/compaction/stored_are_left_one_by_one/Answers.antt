use Rattle.kv_model.proofs.Storing.{stored_one_by_one, stored-push}
use Rattle.kv_model.proofs.laws.compaction.stored_are_left_one_by_one.Goals as goal

pub returns-clause-whole : goal.returns-clause-whole
returns-clause-whole c = stored_one_by_one

pub returns-clause-step : goal.returns-clause-step
returns-clause-step c = stored-push
