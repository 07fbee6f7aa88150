use Rattle.kv_replay.proofs.Pours.{pours_none}
use Rattle.kv_replay.proofs.Progress.{on_err}
use Rattle.kv_durable_script.proofs.StoredLines.{fault_poured, next_poured, part_poured}
use Rattle.kv_durable_script.proofs.stored.pour_stored.Goals as goal

pub loop-numbered-init : goal.loop-numbered-init
loop-numbered-init g c = record {
  same = g.met.K.Output.goes_on_itself _;
  poured = pours_none _ c.args.out.now.items;
}

pub loop-numbered-preserved : goal.loop-numbered-preserved
loop-numbered-preserved g c = record {
  same = g.met.K.Output.goes_on_later _ _ _ c.loop-numbered.invariant.same c.in_ok-pour_many.ensures.same;
  poured = next_poured (λ f. f.1.now) c.args.writes.now _ _ _ _ _ _ _ c.loop-numbered.numbered-index c.numbered-item.result c.loop-numbered-test.true c.numbered-item.is c.loop-numbered.invariant.poured c.in_ok-push_stored.ensures
      c.in_ok-pour_many.ensures.ok;
}

pub returns-in_err-push_stored-clause-early : goal.returns-in_err-push_stored-clause-early
returns-in_err-push_stored-clause-early g c =
    on_err c.from_residual.result (part_poured (λ f. f.1.now) c.args.writes.now _ _ _ _ c.loop-numbered.numbered-index c.loop-numbered.invariant.poured)

pub returns-in_err-pour_many-clause-early : goal.returns-in_err-pour_many-clause-early
returns-in_err-pour_many-clause-early g c =
    on_err c.from_residual-in_err-pour_many.result
    (fault_poured (λ f. f.1.now) c.args.writes.now _ _ _ _ _ _ c.loop-numbered.numbered-index c.numbered-item.result c.loop-numbered-test.true c.numbered-item.is c.loop-numbered.invariant.poured c.in_ok-push_stored.ensures
    c.in_err-pour_many.ensures.err)
