use Rattle.std.proofs.Common.{arith}
use Rattle.kv_race.proofs.Numbering.{more_of_a_worker}
use Rattle.kv_race.proofs.numbers.push_revisions.Goals as goal

pub loop-n-preserved : goal.loop-n-preserved
loop-n-preserved c =
    more_of_a_worker c.args.revisions.now.items c.loop-n.revisions.items c.push_revision.new.revisions.items c.args.replies.now.items c.loop-n.n c.index.result.now (omega arith) c.index.ensures c.loop-n.invariant
    c.in_ok-push_revision.ensures.ok
