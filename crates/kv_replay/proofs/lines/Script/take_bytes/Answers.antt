use Rattle.std.proofs.Common.{◌+◌, length-drop, arith, rules}
use Rattle.kv_replay.proofs.LeavingBytes.{left_in_line, left_untouched}
use Rattle.kv_replay.proofs.Progress.{on_err}
use Rattle.kv_replay.proofs.TakingLines.{first_line, no_line, rest_is, took_all, took_fault, took_line, took_none, took_part}
use Rattle.kv_replay.proofs.lines.Script.take_bytes.Goals as goal

pub lines-init : goal.lines-init
lines-init g c = record {
  same = g.met.K.Output.goes_on_itself _;
  kept = g.met.T.Target.goes_on_itself _;
  took = λ r holding. took_none r _ _ _ _ holding;
  shorter = omega arith;
}

pub lines-preserved : goal.lines-preserved
lines-preserved g c =
    let line = first_line c.lines.left.now c.in-Some.at c.in-Some.ensures in
    record {
      same = g.met.K.Output.goes_on_later _ _ _ c.lines.invariant.same c.in_ok-take_line.ensures.same;
      kept = g.met.T.Target.goes_on_later _ _ _ c.lines.invariant.kept c.in_ok-take_line.ensures.kept;
      took = λ r holding.
          let so_far = c.lines.invariant.took r holding in
          took_line r _ _ _ _ _ _ _ _ _ so_far line _ _ _ (c.in_ok-take_line.ensures.ok so_far.reading so_far.holds) _ (rest_is c.lines.left.now (c.in-Some.at + 1));
      shorter = rw (rest_is c.lines.left.now (c.in-Some.at + 1)) (omega (arith, length-drop (c.in-Some.at + 1) c.lines.left.now, c.lines.invariant.shorter));
    }

pub overflow_add-left : goal.overflow_add-left
overflow_add-left g c =
    let high = c.in-Some.ensures.0.high in
    let shorter = c.lines.invariant.shorter in
    search (rules, arith)

pub returns-in_default-clause-ok : goal.returns-in_default-clause-ok
returns-in_default-clause-ok g c = λ r holding.
    took_all r _ _ _ _ _ _ _ (c.lines.invariant.took r holding) (no_line c.lines.left.now c.in_default.ensures) _ c.in_ok-take_part.ensures.line

pub returns-in_err-take_line-clause-write_fault : goal.returns-in_err-take_line-clause-write_fault
returns-in_err-take_line-clause-write_fault g c = λ fault.
    let line = first_line c.lines.left.now c.in-Some.at c.in-Some.ensures in
    let stop = c.in_err-take_line.ensures.write_fault (search rules) in (
      g.met.K.Output.failed_later _ _ _ c.lines.invariant.same stop.0,
      λ r holding.
          let so_far = c.lines.invariant.took r holding in
          took_fault r _ _ _ _ _ _ _ _ _ so_far line _ (stop.1 so_far.reading so_far.holds),
    )

pub returns-in_err-take_line-clause-memory : goal.returns-in_err-take_line-clause-memory
returns-in_err-take_line-clause-memory g c = λ fault r holding.
    let line = first_line c.lines.left.now c.in-Some.at c.in-Some.ensures in
    let so_far = c.lines.invariant.took r holding in
    took_part r _ _ _ _ _ _ _ _ _ so_far line _ _ (c.in_err-take_line.ensures.memory (search rules) so_far.reading so_far.holds)

pub returns-in_err-take_line-clause-kept : goal.returns-in_err-take_line-clause-kept
returns-in_err-take_line-clause-kept g c =
    g.met.T.Target.goes_on_later _ _ _ c.lines.invariant.kept c.in_err-take_line.ensures.kept

pub returns-in_err-take_part-clause-left : goal.returns-in_err-take_part-clause-left
returns-in_err-take_part-clause-left g c = on_err c.from_residual.result (λ r holding.
    left_untouched r _ _ _ _ _ _ _ (c.lines.invariant.took r holding) _ _ _ (search rules))

pub returns-in_err-take_line-clause-left : goal.returns-in_err-take_line-clause-left
returns-in_err-take_line-clause-left g c = on_err c.from_residual-in_err-take_line.result (λ r holding.
    let line = first_line c.lines.left.now c.in-Some.at c.in-Some.ensures in
    let so_far = c.lines.invariant.took r holding in
    left_in_line r _ _ _ _ _ _ _ _ _ so_far line _ _ _ _ _ (c.in_err-take_line.ensures.left so_far.reading so_far.holds)
    (λ fault. (c.in_err-take_line.ensures.write_fault (search rules)).1 so_far.reading so_far.holds)
    (λ fault. c.in_err-take_line.ensures.memory (search rules) so_far.reading so_far.holds))
