use Rattle.std.proofs.Common.{◌<◌, length, arith, refl, rules}
use Rattle.std.proofs.lemmas.Result.{on_ok_weaker}
use Rattle.kv_replay.proofs.LeavingRuns.{left_at_end, left_fault, left_in_bytes}
use Rattle.kv_replay.proofs.Progress.{in_time_still, not_ended}
use Rattle.kv_replay.proofs.Reached.{ended_at, reached_more, reached_end, reached_fault, stopped_in_bytes, stopped_at_end, whole_in_bytes, whole_at_end}
use Rattle.kv_replay.proofs.engine.answer_lines.Goals as goal

pub returns-in_err-count-clause-read_fault : goal.returns-in_err-count-clause-read_fault
returns-in_err-count-clause-read_fault g c = λ fault.
    (g.met.S.BoundedInput.failed_later _ _ _ c.reads.invariant.same_source c.in_err-count.ensures.failed, λ session holding. reached_fault c.args.form session _ _ _ _ _ (c.reads.invariant.reached session holding) _ c.in_err-count.ensures.bytes)

pub returns-then-count-eq0-clause-ok : goal.returns-then-count-eq0-clause-ok
returns-then-count-eq0-clause-ok g c =
    let nothing = rw c.if-count-eq0.true at c.in_ok-count.ensures.bytes.0 in
    let room : 0 < length c.read.new.buffer = omega arith in
    let complete = c.in_ok-count.ensures.bytes.1 c.if-count-eq0.true room in
    on_ok_weaker c.answer_end.result (λ ends session holding.
    let so_far = c.reads.invariant.reached session holding in
    reached_end c.args.form session _ _ _ _ _ so_far _ _ nothing complete (ends _ so_far.is_after)) c.answer_end.ensures.ok

pub returns-then-count-eq0-clause-write_fault : goal.returns-then-count-eq0-clause-write_fault
returns-then-count-eq0-clause-write_fault g c = λ fault.
    let nothing = rw c.if-count-eq0.true at c.in_ok-count.ensures.bytes.0 in
    let stop = c.answer_end.ensures.write_fault fault in (
      g.met.K.Output.failed_later _ _ _ c.reads.invariant.same_sink stop.0,
      λ session holding.
          let so_far = c.reads.invariant.reached session holding in
          stopped_at_end c.args.form session _ _ _ _ _ so_far _ _ nothing (stop.1 _ so_far.is_after),
    )

pub returns-then-count-eq0-clause-memory : goal.returns-then-count-eq0-clause-memory
returns-then-count-eq0-clause-memory g c = λ fault session holding.
    let nothing = rw c.if-count-eq0.true at c.in_ok-count.ensures.bytes.0 in
    let so_far = c.reads.invariant.reached session holding in
    whole_at_end c.args.form session _ _ _ _ _ so_far _ _ nothing (c.answer_end.ensures.memory fault _ so_far.is_after)

pub reads-preserved : goal.reads-preserved
reads-preserved g c = record {
  same_source = g.met.S.BoundedInput.goes_on_later _ _ _ c.reads.invariant.same_source c.in_ok-count.ensures.same;
  same_sink = g.met.K.Output.goes_on_later _ _ _ c.reads.invariant.same_sink c.in_ok-answer_bytes.ensures.same;
  in_time = λ begins.
      let so_far = c.reads.invariant.in_time begins in (
        not_ended _ _ _ c.in_ok-count.ensures.ended so_far.0 c.if-count-eq0.false,
        in_time_still _ _ _ c.in_ok-count.ensures.late so_far,
      );
  kept = g.met.T.Target.goes_on_later _ _ _ c.reads.invariant.kept c.in_ok-answer_bytes.ensures.kept;
  reached = λ session holding.
      let so_far = c.reads.invariant.reached session holding in
      reached_more c.args.form session _ _ _ _ _ so_far _ _ _ _ c.in_ok-count.ensures.bytes.0 (c.in_ok-answer_bytes.ensures.ok _ so_far.is_after);
}

pub returns-in_err-answer_bytes-clause-write_fault : goal.returns-in_err-answer_bytes-clause-write_fault
returns-in_err-answer_bytes-clause-write_fault g c = λ fault.
    let stop = c.in_err-answer_bytes.ensures.write_fault (search rules) in (
      g.met.K.Output.failed_later _ _ _ c.reads.invariant.same_sink stop.0,
      λ session holding.
          let so_far = c.reads.invariant.reached session holding in
          stopped_in_bytes c.args.form session _ _ _ _ _ so_far _ _ _ c.in_ok-count.ensures.bytes.0 (stop.1 _ so_far.is_after),
    )

pub returns-in_err-answer_bytes-clause-memory : goal.returns-in_err-answer_bytes-clause-memory
returns-in_err-answer_bytes-clause-memory g c = λ fault session holding.
    let so_far = c.reads.invariant.reached session holding in
    whole_in_bytes c.args.form session _ _ _ _ _ so_far _ _ _ c.in_ok-count.ensures.bytes.0 (c.in_err-answer_bytes.ensures.memory (search rules) _ so_far.is_after)

pub returns-in_err-count-clause-in_time : goal.returns-in_err-count-clause-in_time
returns-in_err-count-clause-in_time g c = λ begins. in_time_still _ _ _ c.in_err-count.ensures.late (c.reads.invariant.in_time begins)

pub returns-then-count-eq0-clause-in_time : goal.returns-then-count-eq0-clause-in_time
returns-then-count-eq0-clause-in_time g c = λ begins. in_time_still _ _ _ c.in_ok-count.ensures.late (c.reads.invariant.in_time begins)

pub returns-in_err-answer_bytes-clause-in_time : goal.returns-in_err-answer_bytes-clause-in_time
returns-in_err-answer_bytes-clause-in_time g c = λ begins. in_time_still _ _ _ c.in_ok-count.ensures.late (c.reads.invariant.in_time begins)

pub returns-in_err-count-clause-same_source : goal.returns-in_err-count-clause-same_source
returns-in_err-count-clause-same_source g c =
    g.met.S.BoundedInput.goes_on_later _ _ _ c.reads.invariant.same_source c.in_err-count.ensures.same

pub returns-then-count-eq0-clause-same_source : goal.returns-then-count-eq0-clause-same_source
returns-then-count-eq0-clause-same_source g c =
    g.met.S.BoundedInput.goes_on_later _ _ _ c.reads.invariant.same_source c.in_ok-count.ensures.same

pub returns-then-count-eq0-clause-same_sink : goal.returns-then-count-eq0-clause-same_sink
returns-then-count-eq0-clause-same_sink g c =
    g.met.K.Output.goes_on_later _ _ _ c.reads.invariant.same_sink c.answer_end.ensures.same

pub returns-in_err-answer_bytes-clause-same_source : goal.returns-in_err-answer_bytes-clause-same_source
returns-in_err-answer_bytes-clause-same_source g c =
    g.met.S.BoundedInput.goes_on_later _ _ _ c.reads.invariant.same_source c.in_ok-count.ensures.same

pub returns-in_err-answer_bytes-clause-same_sink : goal.returns-in_err-answer_bytes-clause-same_sink
returns-in_err-answer_bytes-clause-same_sink g c =
    g.met.K.Output.goes_on_later _ _ _ c.reads.invariant.same_sink c.in_err-answer_bytes.ensures.same

pub returns-then-count-eq0-clause-kept : goal.returns-then-count-eq0-clause-kept
returns-then-count-eq0-clause-kept g c =
    g.met.T.Target.goes_on_later _ _ _ c.reads.invariant.kept c.answer_end.ensures.kept

pub returns-in_err-answer_bytes-clause-kept : goal.returns-in_err-answer_bytes-clause-kept
returns-in_err-answer_bytes-clause-kept g c =
    g.met.T.Target.goes_on_later _ _ _ c.reads.invariant.kept c.in_err-answer_bytes.ensures.kept

pub returns-then-count-eq0-clause-stands : goal.returns-then-count-eq0-clause-stands
returns-then-count-eq0-clause-stands g c =
    let nothing = rw c.if-count-eq0.true at c.in_ok-count.ensures.bytes.0 in
    on_ok_weaker c.answer_end.result (λ ends session holding.
    let so_far = c.reads.invariant.reached session holding in
    ended_at c.args.form session _ _ _ _ _ so_far _ _ nothing (ends _ so_far.is_after)) c.answer_end.ensures.stands

pub returns-in_err-count-clause-left : goal.returns-in_err-count-clause-left
returns-in_err-count-clause-left g c = λ session holding.
    left_fault c.args.form session _ _ _ _ _ (c.reads.invariant.reached session holding) _ _ c.in_err-count.ensures.bytes refl

pub returns-then-count-eq0-clause-left : goal.returns-then-count-eq0-clause-left
returns-then-count-eq0-clause-left g c =
    let nothing = rw c.if-count-eq0.true at c.in_ok-count.ensures.bytes.0 in
    λ session holding.
    let so_far = c.reads.invariant.reached session holding in
    left_at_end c.args.form session _ _ _ _ _ so_far _ _ _ nothing (c.answer_end.ensures.left _ so_far.is_after)

pub returns-in_err-answer_bytes-clause-left : goal.returns-in_err-answer_bytes-clause-left
returns-in_err-answer_bytes-clause-left g c = λ session holding.
    let so_far = c.reads.invariant.reached session holding in
    left_in_bytes c.args.form session _ _ _ _ _ so_far _ _ _ _ c.in_ok-count.ensures.bytes.0 (c.in_err-answer_bytes.ensures.left _ so_far.is_after)
