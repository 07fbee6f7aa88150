use Rattle.std.proofs.Common.{subst, sym}
use Rattle.kv_single.specs.Held.{Represents}
use Rattle.std.proofs.lemmas.Result.{on_err_weaker, on_ok_weaker}
use Rattle.kv_replay.specs.Text.{takes}
use Rattle.kv_replay.proofs.Taking.{does_once, ends_at_once, ends_early, ends_once, same_take}
use Rattle.kv_replay.proofs.answer.answer_command.Goals as goal

pub returns-in-Write-clause-err : goal.returns-in-Write-clause-err
returns-in-Write-clause-err g c = rw c.in-Write.is (on_err_weaker c.answer_write.result (λ same state r. ends_once state _ _ _ _ _ same.0 (same.1 state r)) c.answer_write.ensures.err)

pub returns-in-Get-clause-err : goal.returns-in-Get-clause-err
returns-in-Get-clause-err g c = on_err_weaker c.answer_get.result (λ same state r. ends_at_once state _ _ _ _ same r) c.answer_get.ensures.err

pub returns-in-GetAt-clause-err : goal.returns-in-GetAt-clause-err
returns-in-GetAt-clause-err g c = on_err_weaker c.answer_get_at.result (λ same state r. ends_at_once state _ _ _ _ same r) c.answer_get_at.ensures.err

pub returns-in-History-clause-err : goal.returns-in-History-clause-err
returns-in-History-clause-err g c = on_err_weaker c.answer_history.result (λ same state r. ends_at_once state _ _ _ _ same r) c.answer_history.ensures.err

pub returns-in-Keys-clause-err : goal.returns-in-Keys-clause-err
returns-in-Keys-clause-err g c = on_err_weaker c.answer_keys.result (λ same state r. ends_at_once state _ _ _ _ same r) c.answer_keys.ensures.err

pub returns-in-Watch-clause-err : goal.returns-in-Watch-clause-err
returns-in-Watch-clause-err g c = rw c.in-Watch.is (on_err_weaker c.answer_watch.result (λ same state r. ends_once state _ _ _ _ _ same.0 (same.1 state r)) c.answer_watch.ensures.err)

pub returns-in-Stop-clause-err : goal.returns-in-Stop-clause-err
returns-in-Stop-clause-err g c = rw c.in-Stop.is (on_err_weaker c.answer_stop.result (λ same state r. ends_once state _ _ _ _ _ same.0 (same.1 state r)) c.answer_stop.ensures.err)

pub returns-in-Status-clause-err : goal.returns-in-Status-clause-err
returns-in-Status-clause-err g c = on_err_weaker c.answer_status.result (λ same state r. ends_at_once state _ _ _ _ same r) c.answer_status.ensures.err

pub returns-in-Seal-clause-err : goal.returns-in-Seal-clause-err
returns-in-Seal-clause-err g c = rw c.in-Seal.is (on_err_weaker c.answer_seal.result (λ same state r. ends_once state _ _ _ _ _ same.0 (same.1 state r)) c.answer_seal.ensures.err)

pub returns-in-Compact-clause-err : goal.returns-in-Compact-clause-err
returns-in-Compact-clause-err g c = rw c.in-Compact.is (on_err_weaker c.answer_compact.result (λ same state r. ends_once state _ _ _ _ _ same.0 (same.1 state r)) c.answer_compact.ensures.err)

pub returns-in-Place-clause-err : goal.returns-in-Place-clause-err
returns-in-Place-clause-err g c = on_err_weaker c.answer_place.result (λ same state r. ends_at_once state _ _ _ _ same r) c.answer_place.ensures.err

pub returns-in-Take-clause-err : goal.returns-in-Take-clause-err
returns-in-Take-clause-err g c =
    rw c.in-Take.is (on_err_weaker c.answer_takes.result (λ between state r. ends_early state (takes c.args.form c.in-Take.watch c.in-Take.count state) _ _ _ (between state r)) c.answer_takes.ensures.err)

pub returns-in-Take-clause-shown : goal.returns-in-Take-clause-shown
returns-in-Take-clause-shown g c =
    rw c.in-Take.is (on_err_weaker c.answer_takes.result (λ between watch count same state r. same_take c.args.form state _ _ _ c.in-Take.watch c.in-Take.count watch count same (between state r)) c.answer_takes.ensures.err)

pub returns-in-Write-clause-ok : goal.returns-in-Write-clause-ok
returns-in-Write-clause-ok g c = rw c.in-Write.is (on_ok_weaker c.answer_write.result (λ all state r. let done = all c.args.form state r in does_once state _ _ _ _ _ done.0 done.1) c.answer_write.ensures.ok)

pub returns-in-Watch-clause-ok : goal.returns-in-Watch-clause-ok
returns-in-Watch-clause-ok g c = rw c.in-Watch.is (on_ok_weaker c.answer_watch.result (λ all state r. let done = all c.args.form state r in does_once state _ _ _ _ _ done.0 done.1) c.answer_watch.ensures.ok)

pub returns-in-Seal-clause-ok : goal.returns-in-Seal-clause-ok
returns-in-Seal-clause-ok g c = rw c.in-Seal.is (on_ok_weaker c.answer_seal.result (λ all state r. let done = all c.args.form state r in does_once state _ _ _ _ _ done.0 done.1) c.answer_seal.ensures.ok)

pub returns-in-Compact-clause-ok : goal.returns-in-Compact-clause-ok
returns-in-Compact-clause-ok g c = rw c.in-Compact.is (on_ok_weaker c.answer_compact.result (λ all state r. let done = all c.args.form state r in does_once state _ _ _ _ _ done.0 done.1) c.answer_compact.ensures.ok)

pub returns-in-Keys-clause-ok : goal.returns-in-Keys-clause-ok
returns-in-Keys-clause-ok g c = rw c.in-Keys.is (on_ok_weaker c.answer_keys.result (λ all state r. does_once state state _ _ _ _ (all c.args.form state (subst (Represents state) (sym c.as_bucket-in-Keys.ensures) r)) r) c.answer_keys.ensures.ok)

pub returns-in-Status-clause-ok : goal.returns-in-Status-clause-ok
returns-in-Status-clause-ok g c = rw c.in-Status.is (on_ok_weaker c.answer_status.result (λ all state r. does_once state state _ _ _ _ (all c.args.form state (subst (Represents state) (sym c.as_bucket-in-Status.ensures) r)) r) c.answer_status.ensures.ok)

pub returns-in-Batch-clause-err : goal.returns-in-Batch-clause-err
returns-in-Batch-clause-err g c = on_err_weaker c.answer_refusal.result (λ same state r. ends_at_once state _ _ _ _ same r) c.answer_refusal.ensures.err
