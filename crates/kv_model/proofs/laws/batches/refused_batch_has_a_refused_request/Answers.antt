use Rattle.kv_model.proofs.Batching.{refused_somewhere, refused_only, never_memory}
use Rattle.kv_model.proofs.laws.batches.refused_batch_has_a_refused_request.Goals as goal

pub returns-clause-refused : goal.returns-clause-refused
returns-clause-refused c = refused_somewhere

pub returns-clause-only : goal.returns-clause-only
returns-clause-only c = refused_only

pub returns-clause-never : goal.returns-clause-never
returns-clause-never c = never_memory
