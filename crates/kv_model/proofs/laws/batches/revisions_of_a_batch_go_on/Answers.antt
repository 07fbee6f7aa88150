use Rattle.kv_model.proofs.Batching.{as_many, numbered, from_first}
use Rattle.kv_model.proofs.laws.batches.revisions_of_a_batch_go_on.Goals as goal

pub returns-clause-count : goal.returns-clause-count
returns-clause-count c = as_many

pub returns-clause-revisions : goal.returns-clause-revisions
returns-clause-revisions c = numbered

pub returns-clause-first : goal.returns-clause-first
returns-clause-first c = from_first
