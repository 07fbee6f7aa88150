use Rattle.kv_script.specs.Text.{refusal_text}
use Rattle.kv_replay.proofs.Pours.{pours_out, puts_waiting}
use Rattle.kv_replay.proofs.Progress.{err_of}
use Rattle.kv_replay.proofs.answer.pour_refusal.Goals as goal

pub returns-clause-write_fault : goal.returns-clause-write_fault
returns-clause-write_fault g c = λ fault. (
  err_of _ _ fault c.pour_many.ensures.failed,
  (
    c.in_ok-answer_refusal.ensures.cause,
    puts_waiting (refusal_text c.args.error) _ _ _ c.args.out.now.items _ (pours_out _ _ _ _ c.in_ok-answer_refusal.ensures.ok) (err_of _ _ fault c.pour_many.ensures.err),
  ),
)
