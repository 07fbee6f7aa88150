use Rattle.kv_journal.proofs.Pushing.{next_pushed, none_pushed}
use Rattle.kv_journal.proofs.checkpoint.push_all_stored.Goals as goal

pub loop-numbered-init : goal.loop-numbered-init
loop-numbered-init c = none_pushed c.args.framing.now.seed c.args.out.now.items

pub loop-numbered-preserved : goal.loop-numbered-preserved
loop-numbered-preserved c =
    next_pushed (λ f. f.1.now) c.args.framing.now.seed c.args.out.now.items c.loop-numbered.out.items c.push_stored.new.out.items c.args.writes.now c.loop-numbered.numbered-index c.numbered-item.result
    c.loop-numbered-test.true c.numbered-item.is c.loop-numbered.invariant c.in_ok-push_stored.ensures.items c.in_ok-push_stored.ensures.payload
