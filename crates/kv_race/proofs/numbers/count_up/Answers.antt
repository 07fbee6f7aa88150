use Rattle.kv_race.proofs.Numbering.{counts_on}
use Rattle.kv_race.proofs.numbers.count_up.Goals as goal

pub loop-n-preserved : goal.loop-n-preserved
loop-n-preserved c = counts_on c.args.numbers.now c.loop-n.n 0 c.loop-n-test.true c.if-numbers-n.false c.loop-n.invariant
