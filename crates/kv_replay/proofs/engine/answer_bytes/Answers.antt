use Rattle.std.proofs.Common.{[], Err, append-nil, ap, refl}
use Rattle.std.proofs.lemmas.Result.{on_err_weaker, on_ok_weaker}
use Rattle.kv_replay.specs.Sessions.{line_text, line_next}
use Rattle.kv_replay.specs.inside.Reading.{said}
use Rattle.kv_replay.specs.declared.lines.TheConstants.{KEPT_BYTES}
use Rattle.kv_replay.proofs.LeavingBytes.{puts_whole}
use Rattle.kv_replay.proofs.Pours.{poured_all, poured_front, poured_front_part, poured_part}
use Rattle.kv_replay.proofs.Progress.{err_of, on_err}
use Rattle.kv_replay.proofs.engine.answer_bytes.Goals as goal

pub returns-in-Ok-clause-write_fault : goal.returns-in-Ok-clause-write_fault
returns-in-Ok-clause-write_fault g c = λ fault. (
  g.met.K.Output.failed_later _ _ _ c.in-Ok.ensures.same (err_of _ _ fault c.write.ensures.failed),
  λ r holding.
      poured_part (said KEPT_BYTES (line_text c.args.form) (line_next c.args.form) r c.args.bytes.now) _ _ _ _ _ c.deref.ensures.value (rw c.new-out.ensures.items at (c.in-Ok.ensures.ok r holding).0) (err_of _ _ fault c.write.ensures.err),
)

pub returns-in_err-write-in-Err-OutOfMemory-clause-write_fault : goal.returns-in_err-write-in-Err-OutOfMemory-clause-write_fault
returns-in_err-write-in-Err-OutOfMemory-clause-write_fault g c = λ fault. (
  g.met.K.Output.failed_later _ _ _ c.in-Err-OutOfMemory.ensures.same c.in_err-write-in-Err-OutOfMemory.ensures.failed,
  λ r holding.
      poured_front_part (said KEPT_BYTES (line_text c.args.form) (line_next c.args.form) r c.args.bytes.now) _ _ _ _ _ c.deref-in-Err-OutOfMemory.ensures.value
      (rw c.new-out.ensures.items at (c.in-Err-OutOfMemory.ensures.memory (ap Err c.in-Err-OutOfMemory.field-0-is) r holding)) c.in_err-write-in-Err-OutOfMemory.ensures.err,
)

pub returns-in-Ok-clause-ok : goal.returns-in-Ok-clause-ok
returns-in-Ok-clause-ok g c = on_ok_weaker c.write.result (λ wrote r holding.
    (poured_all (said KEPT_BYTES (line_text c.args.form) (line_next c.args.form) r c.args.bytes.now) _ _ _ _ _ c.deref.ensures.value (rw c.new-out.ensures.items at (c.in-Ok.ensures.ok r holding).0) wrote, (c.in-Ok.ensures.ok r holding).1)) c.write.ensures.ok

pub returns-in-Err-OutOfMemory-clause-memory : goal.returns-in-Err-OutOfMemory-clause-memory
returns-in-Err-OutOfMemory-clause-memory g c = λ fault r holding.
    poured_front (said KEPT_BYTES (line_text c.args.form) (line_next c.args.form) r c.args.bytes.now) _ _ _ _ _ c.deref-in-Err-OutOfMemory.ensures.value
    (rw c.new-out.ensures.items at (c.in-Err-OutOfMemory.ensures.memory (ap Err c.in-Err-OutOfMemory.field-0-is) r holding)) c.in_ok-write-in-Err-OutOfMemory.ensures.ok

pub returns-in-Err-OutOfMemory-clause-same : goal.returns-in-Err-OutOfMemory-clause-same
returns-in-Err-OutOfMemory-clause-same g c =
    g.met.K.Output.goes_on_later _ _ _ c.in-Err-OutOfMemory.ensures.same c.in_ok-write-in-Err-OutOfMemory.ensures.same

pub returns-in-Ok-clause-same : goal.returns-in-Ok-clause-same
returns-in-Ok-clause-same g c = g.met.K.Output.goes_on_later _ _ _ c.in-Ok.ensures.same c.write.ensures.same

pub returns-in-Ok-clause-left : goal.returns-in-Ok-clause-left
returns-in-Ok-clause-left g c = on_err_weaker c.write.result (λ wrote r holding.
    let done = c.in-Ok.ensures.ok r holding in
    record {
      front = c.args.bytes.now;
      first = ([], append-nil c.args.bytes.now);
      acts = (_, refl, done.1.session.bucket);
      written = poured_part (said KEPT_BYTES (line_text c.args.form) (line_next c.args.form) r c.args.bytes.now) _ _ _ _ _ c.deref.ensures.value (rw c.new-out.ensures.items at done.0) wrote;
    }) c.write.ensures.err

pub returns-in_err-write-in-Err-OutOfMemory-clause-left : goal.returns-in_err-write-in-Err-OutOfMemory-clause-left
returns-in_err-write-in-Err-OutOfMemory-clause-left g c = on_err c.from_residual.result (λ r holding.
    let left = c.in-Err-OutOfMemory.ensures.left r holding in
    record {
      front = left.front;
      first = left.first;
      acts = left.acts;
      written = poured_front_part (said KEPT_BYTES (line_text c.args.form) (line_next c.args.form) r left.front) _ _ _ _ _ c.deref-in-Err-OutOfMemory.ensures.value
          (rw c.new-out.ensures.items at (left.memory (ap Err c.in-Err-OutOfMemory.field-0-is))) c.in_err-write-in-Err-OutOfMemory.ensures.err;
    })

pub returns-in-Err-OutOfMemory-clause-left : goal.returns-in-Err-OutOfMemory-clause-left
returns-in-Err-OutOfMemory-clause-left g c = λ r holding.
    let left = c.in-Err-OutOfMemory.ensures.left r holding in
    record {
      front = left.front;
      first = left.first;
      acts = left.acts;
      written = puts_whole (poured_front (said KEPT_BYTES (line_text c.args.form) (line_next c.args.form) r left.front) _ _ _ _ _ c.deref-in-Err-OutOfMemory.ensures.value
          (rw c.new-out.ensures.items at (left.memory (ap Err c.in-Err-OutOfMemory.field-0-is))) c.in_ok-write-in-Err-OutOfMemory.ensures.ok);
    }
