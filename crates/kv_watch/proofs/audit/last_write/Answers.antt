use Rattle.std.proofs.Common.{arith}
use Rattle.kv_watch.proofs.SlowSteps.{last_write_more}
use Rattle.kv_watch.proofs.audit.last_write.Goals as goal
use Rattle.kv_watch.proofs.audit.last_write.Goals.{then-eq, else-eq}

pub loop-write-preserved : goal.loop-write-preserved
loop-write-preserved c =
    let more = last_write_more c.args.key.now c.args.writes.now c.loop-write.write-index c.write-item.result c.loop-write-test.true c.write-item.is in
    elim c.if-eq.branch [ then-eq w ↦ grind (arith, more) | else-eq w ↦ grind (arith, more) ]
