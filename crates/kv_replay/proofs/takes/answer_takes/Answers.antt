use Rattle.std.proofs.Common.{sym, ◌∙◌, arith}
use Rattle.kv_replay.proofs.Progress.{on_err}
use Rattle.kv_replay.proofs.Taking.{took_one, took_last, took_part, took_all}
use Rattle.kv_replay.proofs.takes.answer_takes.Goals as goal

pub returns-then-not-branch-clause-ok : goal.returns-then-not-branch-clause-ok
returns-then-not-branch-clause-ok g c = λ state r.
    let so_far = c.loop.invariant.took state r in
    let took = c.in_ok-answer_take.ensures.ok so_far.current so_far.stands in
    took_last state _ _ _ _ _ _ so_far _ _ (omega arith) (sym took.0 ∙ c.if-not-branch.true) took.1.0 took.1.1

pub loop-preserved : goal.loop-preserved
loop-preserved g c = record {
  kept = g.met.T.Target.goes_on_later _ _ _ c.loop.invariant.kept c.in_ok-answer_take.ensures.kept;
  took = λ state r.
      let so_far = c.loop.invariant.took state r in
      let took = c.in_ok-answer_take.ensures.ok so_far.current so_far.stands in
      took_one state _ _ _ _ _ _ so_far _ _ (omega arith) (sym took.0 ∙ c.if-not-branch.false) took.1.0 took.1.1;
}

pub returns-clause-ok : goal.returns-clause-ok
returns-clause-ok g c = λ state r. took_all state _ _ _ _ _ _ (c.loop.invariant.took state r) (omega arith)

pub returns-in_err-answer_take-clause-err : goal.returns-in_err-answer_take-clause-err
returns-in_err-answer_take-clause-err g c =
    on_err c.from_residual.result (λ state r.
    let kept = c.in_err-answer_take.ensures.err in
    rw (kept.0, kept.1) (took_part state _ _ _ _ _ _ (c.loop.invariant.took state r) (omega arith)))

pub returns-then-not-branch-clause-kept : goal.returns-then-not-branch-clause-kept
returns-then-not-branch-clause-kept g c =
    g.met.T.Target.goes_on_later _ _ _ c.loop.invariant.kept c.in_ok-answer_take.ensures.kept

pub returns-in_err-answer_take-clause-kept : goal.returns-in_err-answer_take-clause-kept
returns-in_err-answer_take-clause-kept g c =
    g.met.T.Target.goes_on_later _ _ _ c.loop.invariant.kept c.in_err-answer_take.ensures.kept

pub returns-clause-kept : goal.returns-clause-kept
returns-clause-kept g c = c.loop.invariant.kept
