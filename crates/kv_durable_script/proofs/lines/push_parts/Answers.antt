use Rattle.kv_durable_script.proofs.Telling.{all_read, none_read, one_more_read}
use Rattle.kv_durable_script.proofs.lines.push_parts.Goals as goal

pub loop-part-init : goal.loop-part-init
loop-part-init c = λ acts e can. none_read acts c.args.bytes.now c.args.out.now.items e can

pub loop-part-preserved : goal.loop-part-preserved
loop-part-preserved c = λ acts e can.
    one_more_read acts c.loop-part.rest.now c.in-Some.part.now c.in-Some.after.now c.args.out.now.items c.loop-part.out.items _ (c.loop-part.invariant acts e can) c.in-Some.ensures c.in_ok-push_one.ensures.ok

pub returns-clause-ok : goal.returns-clause-ok
returns-clause-ok c = λ acts e can.
    all_read acts c.loop-part.rest.now c.args.out.now.items c.loop-part.out.items (c.loop-part.invariant acts e can) c.in_default.ensures
