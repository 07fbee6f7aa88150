use Rattle.std.proofs.Common.{◌∙◌, length, ap, sym, arith, length-append}
use Rattle.std.specs.Prelude.{List, ℕ}
use Rattle.kv_durable_script.proofs.Telling.{all_counted, none_counted, not_counted, one_more_counted}
use Rattle.kv_durable_script.proofs.lines.writes_in.Goals as goal

pub loop-part-init : goal.loop-part-init
loop-part-init c = record { within = omega arith; counted = λ acts e can. none_counted acts c.args.bytes.now e can }

pub loop-part-preserved : goal.loop-part-preserved
loop-part-preserved c =
    let part = c.in-Some.part.now in
    let long = ap (λ (w : List ℕ). length w) c.in-Some.ensures.1 in
    record {
      within = omega (arith, c.loop-part.invariant.within, long, length-append part c.in-Some.after.now);
      counted = λ acts e can.
          one_more_counted acts c.loop-part.rest.now part c.in-Some.after.now c.loop-part.count (c.loop-part.invariant.counted acts e can) c.in-Some.ensures (λ act is. (sym c.if-not-tells_write.false) ∙ c.tells_write.ensures act is);
    }

pub returns-then-not-tells_write : goal.returns-then-not-tells_write
returns-then-not-tells_write c = λ acts e can.
    not_counted acts c.loop-part.rest.now c.in-Some.part.now c.in-Some.after.now c.loop-part.count (c.loop-part.invariant.counted acts e can) c.in-Some.ensures (λ act is. sym c.if-not-tells_write.true ∙ c.tells_write.ensures act is)

pub returns : goal.returns
returns c = λ acts e can. all_counted acts c.loop-part.rest.now c.loop-part.count (c.loop-part.invariant.counted acts e can) c.in_default.ensures
