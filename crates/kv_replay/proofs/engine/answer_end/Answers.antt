use Rattle.std.proofs.Common.{[], Err, ap, inl, inr, refl}
use Rattle.std.proofs.lemmas.Result.{on_ok_weaker}
use Rattle.kv_replay.specs.Sessions.{end_text, line_text, line_next}
use Rattle.kv_replay.specs.inside.Reading.{closed}
use Rattle.kv_replay.specs.declared.lines.TheConstants.{KEPT_BYTES}
use Rattle.kv_replay.proofs.LeavingBytes.{poured_either, puts_whole}
use Rattle.kv_replay.proofs.Pours.{front_none, poured_all, poured_front, poured_front_part, poured_part}
use Rattle.kv_replay.proofs.Progress.{err_of}
use Rattle.kv_replay.proofs.engine.answer_end.Goals as goal

pub returns-in-Ok-clause-write_fault : goal.returns-in-Ok-clause-write_fault
returns-in-Ok-clause-write_fault g c = λ fault. (
  g.met.K.Output.failed_later _ _ _ c.in-Ok.ensures.same (err_of _ _ fault c.write.ensures.failed),
  λ r holding.
      poured_part (closed KEPT_BYTES (line_text c.args.form) (line_next c.args.form) end_text r) _ _ _ _ _ c.deref.ensures.value (rw c.new-out.ensures.items at (c.in-Ok.ensures.ok r holding)) (err_of _ _ fault c.write.ensures.err),
)

pub returns-in_err-write-in-Err-OutOfMemory-clause-write_fault : goal.returns-in_err-write-in-Err-OutOfMemory-clause-write_fault
returns-in_err-write-in-Err-OutOfMemory-clause-write_fault g c = λ fault. (
  g.met.K.Output.failed_later _ _ _ c.in-Err-OutOfMemory.ensures.same c.in_err-write-in-Err-OutOfMemory.ensures.failed,
  λ r holding.
      poured_front_part (closed KEPT_BYTES (line_text c.args.form) (line_next c.args.form) end_text r) _ _ _ _ _ c.deref-in-Err-OutOfMemory.ensures.value
      (rw c.new-out.ensures.items at (c.in-Err-OutOfMemory.ensures.memory (ap Err c.in-Err-OutOfMemory.field-0-is) r holding)) c.in_err-write-in-Err-OutOfMemory.ensures.err,
)

pub returns-in-Ok-clause-ok : goal.returns-in-Ok-clause-ok
returns-in-Ok-clause-ok g c = on_ok_weaker c.write.result (λ wrote r holding.
    poured_all (closed KEPT_BYTES (line_text c.args.form) (line_next c.args.form) end_text r) _ _ _ _ _ c.deref.ensures.value (rw c.new-out.ensures.items at (c.in-Ok.ensures.ok r holding)) wrote) c.write.ensures.ok

pub returns-in-Err-OutOfMemory-clause-memory : goal.returns-in-Err-OutOfMemory-clause-memory
returns-in-Err-OutOfMemory-clause-memory g c = λ fault r holding.
    poured_front (closed KEPT_BYTES (line_text c.args.form) (line_next c.args.form) end_text r) _ _ _ _ _ c.deref-in-Err-OutOfMemory.ensures.value
    (rw c.new-out.ensures.items at (c.in-Err-OutOfMemory.ensures.memory (ap Err c.in-Err-OutOfMemory.field-0-is) r holding)) c.in_ok-write-in-Err-OutOfMemory.ensures.ok

pub returns-in-Err-OutOfMemory-clause-same : goal.returns-in-Err-OutOfMemory-clause-same
returns-in-Err-OutOfMemory-clause-same g c =
    g.met.K.Output.goes_on_later _ _ _ c.in-Err-OutOfMemory.ensures.same c.in_ok-write-in-Err-OutOfMemory.ensures.same

pub returns-in-Ok-clause-same : goal.returns-in-Ok-clause-same
returns-in-Ok-clause-same g c = g.met.K.Output.goes_on_later _ _ _ c.in-Ok.ensures.same c.write.ensures.same

pub returns-in-Ok-clause-stands : goal.returns-in-Ok-clause-stands
returns-in-Ok-clause-stands g c = on_ok_weaker c.write.result (λ wrote. c.in-Ok.ensures.stands) c.write.ensures.ok

pub returns-in-Ok-clause-left : goal.returns-in-Ok-clause-left
returns-in-Ok-clause-left g c = λ r holding.
    inl (
      (_, refl, c.in-Ok.ensures.stands r holding),
      poured_either (closed KEPT_BYTES (line_text c.args.form) (line_next c.args.form) end_text r) _ _ _ _ _ c.write.result c.deref.ensures.value (rw c.new-out.ensures.items at (c.in-Ok.ensures.ok r holding)) c.write.ensures.ok c.write.ensures.err,
    )

pub returns-in_err-write-in-Err-OutOfMemory-clause-left : goal.returns-in_err-write-in-Err-OutOfMemory-clause-left
returns-in_err-write-in-Err-OutOfMemory-clause-left g c = λ r holding. elim (c.in-Err-OutOfMemory.ensures.left r holding) [
  | inl acts ↦ inl (
    acts,
    poured_front_part (closed KEPT_BYTES (line_text c.args.form) (line_next c.args.form) end_text r) _ _ _ _ _ c.deref-in-Err-OutOfMemory.ensures.value
        (rw c.new-out.ensures.items at (c.in-Err-OutOfMemory.ensures.memory (ap Err c.in-Err-OutOfMemory.field-0-is) r holding)) c.in_err-write-in-Err-OutOfMemory.ensures.err,
  )
  | inr none ↦ inr (
    none.0,
    poured_front_part [] _ _ _ _ _ c.deref-in-Err-OutOfMemory.ensures.value (front_none [] _ _ _ _ (rw c.new-out.ensures.items at none.1)) c.in_err-write-in-Err-OutOfMemory.ensures.err,
  )
]

pub returns-in-Err-OutOfMemory-clause-left : goal.returns-in-Err-OutOfMemory-clause-left
returns-in-Err-OutOfMemory-clause-left g c = λ r holding. elim (c.in-Err-OutOfMemory.ensures.left r holding) [
  | inl acts ↦ inl (
    acts,
    puts_whole (poured_front (closed KEPT_BYTES (line_text c.args.form) (line_next c.args.form) end_text r) _ _ _ _ _ c.deref-in-Err-OutOfMemory.ensures.value
        (rw c.new-out.ensures.items at (c.in-Err-OutOfMemory.ensures.memory (ap Err c.in-Err-OutOfMemory.field-0-is) r holding)) c.in_ok-write-in-Err-OutOfMemory.ensures.ok),
  )
  | inr none ↦ inr (
    none.0,
    puts_whole (poured_front [] _ _ _ _ _ c.deref-in-Err-OutOfMemory.ensures.value (front_none [] _ _ _ _ (rw c.new-out.ensures.items at none.1)) c.in_ok-write-in-Err-OutOfMemory.ensures.ok),
  )
]
