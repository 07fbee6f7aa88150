use Rattle.std.proofs.Common.{sym, ◌∙◌, arith}
use Rattle.kv_replay.proofs.Taking.{poured_all, poured_fault, poured_last, poured_none, poured_one, poured_part}
use Rattle.kv_replay.proofs.Leaving.{took_acts, took_more_acts}
use Rattle.kv_replay.proofs.Progress.{on_err}
use Rattle.kv_replay.proofs.takes.pour_takes.Goals as goal

pub loop-init : goal.loop-init
loop-init g c = record {
  same = g.met.K.Output.goes_on_itself _;
  kept = g.met.T.Target.goes_on_itself _;
  poured = λ state stands. poured_none state _ _ _ _ _ stands;
}

pub returns-in_err-pour_many-clause-write_fault : goal.returns-in_err-pour_many-clause-write_fault
returns-in_err-pour_many-clause-write_fault g c = λ fault. (
  g.met.K.Output.failed_later _ _ _ c.loop.invariant.same c.in_err-pour_many.ensures.failed,
  λ state stands.
      let so_far = c.loop.invariant.poured state stands in
      let took = c.in_ok-goes_on.ensures.ok so_far.took.current so_far.took.stands in
      poured_fault state _ _ _ _ _ _ _ _ so_far _ _ (omega arith) took.1.0 c.in_err-pour_many.ensures.err,
)

pub returns-then-not-goes_on-clause-ok : goal.returns-then-not-goes_on-clause-ok
returns-then-not-goes_on-clause-ok g c = λ state stands.
    let so_far = c.loop.invariant.poured state stands in
    let took = c.in_ok-goes_on.ensures.ok so_far.took.current so_far.took.stands in
    poured_last state _ _ _ _ _ _ _ _ so_far _ _ _ _ (omega arith) (sym took.0 ∙ c.if-not-goes_on.true) took.1.0 took.1.1 c.in_ok-pour_many.ensures.ok

pub loop-preserved : goal.loop-preserved
loop-preserved g c = record {
  same = g.met.K.Output.goes_on_later _ _ _ c.loop.invariant.same c.in_ok-pour_many.ensures.same;
  kept = g.met.T.Target.goes_on_later _ _ _ c.loop.invariant.kept c.in_ok-goes_on.ensures.kept;
  poured = λ state stands.
      let so_far = c.loop.invariant.poured state stands in
      let took = c.in_ok-goes_on.ensures.ok so_far.took.current so_far.took.stands in
      poured_one state _ _ _ _ _ _ _ _ so_far _ _ _ _ (omega arith) (sym took.0 ∙ c.if-not-goes_on.false) took.1.0 took.1.1 c.in_ok-pour_many.ensures.ok;
}

pub returns-clause-ok : goal.returns-clause-ok
returns-clause-ok g c = λ state stands. poured_all state _ _ _ _ _ _ _ _ (c.loop.invariant.poured state stands) (omega arith)

pub returns-in_err-goes_on-clause-memory : goal.returns-in_err-goes_on-clause-memory
returns-in_err-goes_on-clause-memory g c = λ fault state stands.
    rw c.in_err-goes_on.ensures.err.0 (poured_part state _ _ _ _ _ _ _ _ (c.loop.invariant.poured state stands))

pub returns-in_err-goes_on-clause-same : goal.returns-in_err-goes_on-clause-same
returns-in_err-goes_on-clause-same g c = c.loop.invariant.same

pub returns-in_err-pour_many-clause-same : goal.returns-in_err-pour_many-clause-same
returns-in_err-pour_many-clause-same g c =
    g.met.K.Output.goes_on_later _ _ _ c.loop.invariant.same c.in_err-pour_many.ensures.same

pub returns-then-not-goes_on-clause-same : goal.returns-then-not-goes_on-clause-same
returns-then-not-goes_on-clause-same g c =
    g.met.K.Output.goes_on_later _ _ _ c.loop.invariant.same c.in_ok-pour_many.ensures.same

pub returns-clause-same : goal.returns-clause-same
returns-clause-same g c = c.loop.invariant.same

pub returns-in_err-goes_on-clause-kept : goal.returns-in_err-goes_on-clause-kept
returns-in_err-goes_on-clause-kept g c =
    g.met.T.Target.goes_on_later _ _ _ c.loop.invariant.kept c.in_err-goes_on.ensures.kept

pub returns-in_err-pour_many-clause-kept : goal.returns-in_err-pour_many-clause-kept
returns-in_err-pour_many-clause-kept g c =
    g.met.T.Target.goes_on_later _ _ _ c.loop.invariant.kept c.in_ok-goes_on.ensures.kept

pub returns-then-not-goes_on-clause-kept : goal.returns-then-not-goes_on-clause-kept
returns-then-not-goes_on-clause-kept g c =
    g.met.T.Target.goes_on_later _ _ _ c.loop.invariant.kept c.in_ok-goes_on.ensures.kept

pub returns-clause-kept : goal.returns-clause-kept
returns-clause-kept g c = c.loop.invariant.kept

pub returns-in_err-goes_on-clause-left : goal.returns-in_err-goes_on-clause-left
returns-in_err-goes_on-clause-left g c = on_err c.from_residual.result (λ state stands.
    let so_far = c.loop.invariant.poured state stands in
    took_acts state _ _ _ _ _ _ so_far.took _ c.in_err-goes_on.ensures.err.1)

pub returns-in_err-pour_many-clause-left : goal.returns-in_err-pour_many-clause-left
returns-in_err-pour_many-clause-left g c = on_err c.from_residual-in_err-pour_many.result (λ state stands.
    let so_far = c.loop.invariant.poured state stands in
    let took = c.in_ok-goes_on.ensures.ok so_far.took.current so_far.took.stands in
    took_more_acts state _ _ _ _ _ _ so_far.took _ took.1.1)
