use Rattle.kv_race.proofs.Numbering.{more_workers}
use Rattle.kv_race.proofs.numbers.revisions_of.Goals as goal

pub loop-n-preserved : goal.loop-n-preserved
loop-n-preserved c =
    more_workers (λ some. some.items) c.loop-n.revisions.items c.push_revisions.new.revisions.items c.args.replies.now c.loop-n.n c.index-replies-n.result c.loop-n-test.true c.index-replies-n.is c.loop-n.invariant
    c.in_ok-push_revisions.ensures.ok
