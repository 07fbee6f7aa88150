use Rattle.std.proofs.Common.{◌<◌, ◌++◌, length, ap, arith, ◌∙◌}
use Rattle.std.proofs.KnownBytes.{Consumes-trans}
use Rattle.kv_run.specs.Planning.{after_line}
use Rattle.kv_run.proofs.Plans.{plan_of-read, plan_on, read_on}
use Rattle.kv_replay.proofs.Progress.{in_time_still, not_ended, on_err}
use Rattle.kv_run.proofs.races.reading.read_lines.Goals as goal

pub returns-then-count-eq0-clause-ok : goal.returns-then-count-eq0-clause-ok
returns-then-count-eq0-clause-ok g c =
    let so_far = c.reads.invariant.reached in
    let input = so_far.0 in
    let nothing_more = rw c.if-count-eq0.true at c.in_ok-count.ensures.bytes.0 in
    let room : 0 < length c.read.new.buffer = omega arith in
    let plan = c.plan.ensures ∙ ap (λ r. r.state) c.in_ok-end_line.ensures.ok ∙ ap (λ r. after_line c.args.form r.state r.line) so_far.1.1 ∙ plan_of-read c.args.form input in
    (input, (read_on _ _ _ input so_far.1.0 nothing_more, (c.in_ok-count.ensures.bytes.1 c.if-count-eq0.true room, plan)))

pub reads-preserved : goal.reads-preserved
reads-preserved g c = record {
  same = g.met.S.BoundedInput.goes_on_later _ _ _ c.reads.invariant.same c.in_ok-count.ensures.same;
  in_time = λ begins.
      let so_far = c.reads.invariant.in_time begins in (
        not_ended _ _ _ c.in_ok-count.ensures.ended so_far.0 c.if-count-eq0.false,
        in_time_still _ _ _ c.in_ok-count.ensures.late so_far,
      );
  reached =
      let so_far = c.reads.invariant.reached in (
        so_far.0 ++ _,
        (
          Consumes-trans _ _ _ so_far.0 _ so_far.1.0 c.in_ok-count.ensures.bytes.0,
          plan_on c.args.form _ _ so_far.0 _ so_far.1.1 c.in_ok-take_bytes.ensures.ok,
        ),
      );
}

pub returns-in_err-take_bytes-clause-part : goal.returns-in_err-take_bytes-clause-part
returns-in_err-take_bytes-clause-part g c =
    let so_far = c.reads.invariant.reached in
    on_err c.from_residual-in_err-take_bytes.result (so_far.0 ++ _, Consumes-trans _ _ _ so_far.0 _ so_far.1.0 c.in_ok-count.ensures.bytes.0)

pub returns-in_err-count-clause-read_fault : goal.returns-in_err-count-clause-read_fault
returns-in_err-count-clause-read_fault g c = λ fault. g.met.S.BoundedInput.failed_later _ _ _ c.reads.invariant.same c.in_err-count.ensures.failed
