use Rattle.std.proofs.Common.{refl, arith}
use Rattle.kv_model.specs.further.Showing.{is_shown}
use Rattle.kv_watch.proofs.SlowSteps.{gathered, gathered_all}
use Rattle.kv_watch.proofs.audit.push_live.Goals as goal

pub loop-write-init : goal.loop-write-init
loop-write-init c = refl

pub loop-write-preserved : goal.loop-write-preserved
loop-write-preserved c =
    gathered (is_shown c.args.filters.now c.args.options) c.loop-write.write-index c.args.writes.now c.write-item.result c.args.events.now.items c.loop-write.events.items c.push_shown.new.events.items
    c.loop-write-test.true c.write-item.is c.loop-write.invariant c.in_ok-push_shown.ensures

pub returns : goal.returns
returns c =
    gathered_all (is_shown c.args.filters.now c.args.options) c.loop-write.write-index c.args.writes.now c.args.events.now.items c.loop-write.events.items (omega (arith, c.loop-write-test.false)) c.loop-write.invariant
