use Rattle.std.proofs.Common.{◌≡◌, ◌+◌, ◌++◌, ◌∷◌, [], Ok, true, false, length, ℕ, List, refl, ap, ◌∙◌, arith}
use Rattle.kv_frames.proofs.Fronts.{length_frame}
use Rattle.kv_journal.proofs.Going.{begun, goes_on, is_damaged, stops}
use Rattle.kv_journal.proofs.replays.replay.Goals as goal

pub loop-payload-init : goal.loop-payload-init
loop-payload-init c = record { within = refl; done = ([], begun c.args.version c.args.framing.now.seed c.args.at c.args.bytes.now) }

pub returns-in-Ok-false-clause-damaged : goal.returns-in-Ok-false-clause-damaged
returns-in-Ok-false-clause-damaged c = λ _ before others left stands lawful splits.
    let inv = c.loop-payload.invariant.done in
    let found = c.in-Some.ensures.some in
    let e : c.redo.result ≡ Ok false = c.in-Ok-false.is ∙ ap Ok c.in-Ok-false.field-0-test in
    is_damaged c.args.version c.args.framing.now.seed c.args.at c.args.bytes.now inv.0 c.loop-payload.offset c.loop-payload.rest.now c.loop-payload.version
    c.in-Some.payload.now c.in-Some.after.now inv.1 found.0 found.1 (c.redo.ensures.not e) before others left stands lawful splits

pub loop-payload-preserved : goal.loop-payload-preserved
loop-payload-preserved c =
    let inv = c.loop-payload.invariant.done in
    let found = c.in-Some.ensures.some in
    let e : c.redo.result ≡ Ok true = c.in-Ok-true.is ∙ ap Ok c.in-Ok-true.field-0-test in
    let done = c.redo.ensures.done e in
    let all : length c.loop-payload.rest.now ≡ 8 + length c.in-Some.payload.now + length c.in-Some.after.now =
    ap (λ (w : List ℕ). length w) found.1 ∙ length_frame c.args.framing.now.seed c.loop-payload.offset c.in-Some.payload.now c.in-Some.after.now in
    record {
      within = omega (arith, c.loop-payload.invariant.within, all);
      done = (
        inv.0 ++ done.0 ∷ [],
        goes_on c.args.version c.args.framing.now.seed c.args.at c.args.bytes.now inv.0 c.loop-payload.offset c.loop-payload.rest.now c.loop-payload.version
            c.in-Some.payload.now c.in-Some.after.now done.0 c.redo.new.version inv.1 found.0 found.1 done.1 c.in-Ok-true.ensures.config,
      );
    }

pub returns-in-Ok-false-clause-offset : goal.returns-in-Ok-false-clause-offset
returns-in-Ok-false-clause-offset c =
    let inv = c.loop-payload.invariant.done in
    let found = c.in-Some.ensures.some in
    stops c.args.version c.args.framing.now.seed c.args.at c.args.bytes.now inv.0 c.loop-payload.offset c.loop-payload.rest.now c.loop-payload.version
    c.in-Some.payload.now c.in-Some.after.now inv.1 found.0 found.1
