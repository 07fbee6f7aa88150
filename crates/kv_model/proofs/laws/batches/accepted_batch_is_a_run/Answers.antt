use Rattle.kv_model.proofs.Batching.{batch_runs, batch_answers}
use Rattle.kv_model.proofs.laws.batches.accepted_batch_is_a_run.Goals as goal

pub returns-clause-state : goal.returns-clause-state
returns-clause-state c = λ state requests ws. batch_runs state requests ws

pub returns-clause-answers : goal.returns-clause-answers
returns-clause-answers c = λ state requests ws. batch_answers state requests ws
