use Rattle.std.proofs.lemmas.Result.{on_err_weaker}
use Rattle.kv_replay.proofs.Progress.{on_err}
use Rattle.kv_run.proofs.Reporting.{puts_first, puts_second}
use Rattle.kv_run.proofs.races.writing.write_report.Goals as goal

pub returns-in_err-write_replies-clause-err : goal.returns-in_err-write_replies-clause-err
returns-in_err-write_replies-clause-err g c = on_err c.from_residual.result (puts_first _ _ _ _ (rw c.deref.ensures.value at c.in_err-write_replies.ensures.err))

pub returns-clause-err : goal.returns-clause-err
returns-clause-err g c = on_err_weaker c.write_seen.result (λ puts. puts_second _ _ _ _ _ (rw c.deref.ensures.value at c.in_ok-write_replies.ensures.ok) (rw c.deref-2.ensures.value at puts)) c.write_seen.ensures.err

pub returns-clause-failed : goal.returns-clause-failed
returns-clause-failed g c = λ fault. g.met.K.Output.failed_later _ _ _ c.in_ok-write_replies.ensures.same (c.write_seen.ensures.failed fault)
