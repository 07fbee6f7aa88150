use Rattle.std.proofs.Common.{refl, arith}
use Rattle.kv_watch.proofs.SlowSteps.{begins_with, gathered, gathered_all}
use Rattle.kv_watch.proofs.audit.push_initial.Goals as goal

pub loop-write-init : goal.loop-write-init
loop-write-init c = refl

pub loop-write-preserved : goal.loop-write-preserved
loop-write-preserved c =
    gathered (begins_with c.args.history c.args.filters.now c.args.options c.args.began.now) c.loop-write.write-index c.args.began.now c.write-item.result c.args.events.now.items c.loop-write.events.items c.push_begun.new.events.items
    c.loop-write-test.true c.write-item.is c.loop-write.invariant c.in_ok-push_begun.ensures

pub returns : goal.returns
returns c =
    gathered_all (begins_with c.args.history c.args.filters.now c.args.options c.args.began.now) c.loop-write.write-index c.args.began.now c.args.events.now.items c.loop-write.events.items (omega (arith, c.loop-write-test.false)) c.loop-write.invariant
