use Rattle.std.proofs.lemmas.Result.{on_err_weaker, on_ok_weaker}
use Rattle.kv_replay.proofs.Pours.{poured_part}
use Rattle.kv_replay.proofs.Progress.{on_err}
use Rattle.kv_durable_script.proofs.Pouring.{all_went}
use Rattle.kv_durable_script.proofs.dumping.write_entries.Goals as goal

pub returns-clause-ok : goal.returns-clause-ok
returns-clause-ok g c =
    on_ok_weaker c.write.result (λ went entries rest splits can. all_went _ _ _ _ _ _ c.new-out.ensures.items (c.in_ok-pour_entries.ensures.ok entries rest splits can) (rw c.deref.ensures.value at went)) c.write.ensures.ok

pub returns-in_err-pour_entries-clause-early : goal.returns-in_err-pour_entries-clause-early
returns-in_err-pour_entries-clause-early g c = on_err c.from_residual.result (λ entries rest splits can. rw c.new-out.ensures.items at (c.in_err-pour_entries.ensures.early entries rest splits can))

pub returns-clause-early : goal.returns-clause-early
returns-clause-early g c =
    on_err_weaker c.write.result (λ part entries rest splits can. poured_part _ _ _ _ _ _ c.deref.ensures.value (rw c.new-out.ensures.items at (c.in_ok-pour_entries.ensures.ok entries rest splits can)) part) c.write.ensures.err
