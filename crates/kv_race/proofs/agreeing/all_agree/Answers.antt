use Rattle.std.proofs.Common.{ap, ◌∙◌}
use Rattle.kv_race.proofs.Alike.{alike_next, all_alike}
use Rattle.kv_race.proofs.agreeing.all_agree.Goals as goal

pub loop-n-preserved : goal.loop-n-preserved
loop-n-preserved g c =
    alike_next (λ end. end.reader.seen) c.args.reader.now.seen c.args.ended.now c.loop-n.n c.index-ended-n.result c.loop-n-test.true c.index-ended-n.is c.loop-n.invariant
    (ap (λ end. end.reader.seen) c.index-ended-n.is ∙ c.have_seen_alike.ensures c.if-not-have_seen_alike.false)

pub returns : goal.returns
returns g c = λ yes. all_alike (λ end. end.reader.seen) c.args.reader.now.seen c.args.ended.now c.loop-n.n c.loop-n-test.false c.loop-n.invariant
