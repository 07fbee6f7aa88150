use Rattle.std.proofs.Common.{◌≡◌, ◌+◌, length, refl, ap, ◌∙◌, arith}
use Rattle.std.specs.Prelude.{List, ℕ}
use Rattle.kv_frames.proofs.Fronts.{length_frame}
use Rattle.kv_replay.proofs.Progress.{on_err}
use Rattle.kv_durable_script.proofs.Pouring.{all_poured, fault_poured, none_poured, one_more_poured, part_poured}
use Rattle.kv_durable_script.proofs.dumping.pour_entries.Goals as goal

pub loop-payload-init : goal.loop-payload-init
loop-payload-init g c = record {
  within = refl;
  same = g.met.K.Output.goes_on_itself _;
  poured = λ entries rest splits can. none_poured c.args.framing.now.seed c.args.at c.args.bytes.now rest entries _ c.args.out.now.items splits can;
}

pub loop-payload-preserved : goal.loop-payload-preserved
loop-payload-preserved g c =
    let found = c.in-Some.ensures.some in
    let all : length c.loop-payload.rest.now ≡ 8 + length c.in-Some.payload.now + length c.in-Some.after.now =
    ap (λ (w : List ℕ). length w) found.1 ∙ length_frame c.args.framing.now.seed c.loop-payload.offset c.in-Some.payload.now c.in-Some.after.now in
    record {
      within = omega (arith, c.loop-payload.invariant.within, all);
      same = g.met.K.Output.goes_on_later _ _ _ c.loop-payload.invariant.same c.in_ok-pour_many.ensures.same;
      poured = λ entries rest splits can.
          one_more_poured c.args.framing.now.seed c.loop-payload.offset c.loop-payload.rest.now rest c.in-Some.payload.now c.in-Some.after.now entries _ _ _ _ _ _ _
          (c.loop-payload.invariant.poured entries rest splits can) found c.in_ok-push_entry.ensures.ok c.in_ok-pour_many.ensures.ok;
    }

pub returns-clause-ok : goal.returns-clause-ok
returns-clause-ok g c = λ entries rest splits can.
    all_poured c.args.framing.now.seed c.loop-payload.offset c.loop-payload.rest.now rest entries _ _ _ _ (c.loop-payload.invariant.poured entries rest splits can) c.in_default.ensures.none

pub returns-in_err-push_entry-clause-early : goal.returns-in_err-push_entry-clause-early
returns-in_err-push_entry-clause-early g c = on_err c.from_residual.result (λ entries rest splits can.
    part_poured c.args.framing.now.seed c.loop-payload.offset c.loop-payload.rest.now rest entries _ _ _ _ (c.loop-payload.invariant.poured entries rest splits can))

pub returns-in_err-pour_many-clause-early : goal.returns-in_err-pour_many-clause-early
returns-in_err-pour_many-clause-early g c = on_err c.from_residual-in_err-pour_many.result (λ entries rest splits can.
    fault_poured c.args.framing.now.seed c.loop-payload.offset c.loop-payload.rest.now rest c.in-Some.payload.now c.in-Some.after.now entries _ _ _ _ _ _
    (c.loop-payload.invariant.poured entries rest splits can) c.in-Some.ensures.some c.in_ok-push_entry.ensures.ok c.in_err-pour_many.ensures.err)
