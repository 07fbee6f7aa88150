use Rattle.kv_replay.specs.Batches.{outcome, outcome_text}
use Rattle.kv_replay.proofs.Pours.{pours_out, puts_waiting}
use Rattle.kv_replay.proofs.Progress.{err_of}
use Rattle.kv_replay.proofs.batches.pour_batch.Goals as goal

pub returns-clause-write_fault : goal.returns-clause-write_fault
returns-clause-write_fault g c = λ fault. (
  err_of _ _ fault c.pour_many.ensures.failed,
  λ state r.
      puts_waiting (outcome_text (outcome state c.args.batch.now.asked)) _ _ _ c.args.out.now.items _ (pours_out _ _ _ _ (c.in_ok-answer_batch.ensures.ok state r).0) (err_of _ _ fault c.pour_many.ensures.err),
)
