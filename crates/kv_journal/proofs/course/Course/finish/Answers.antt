use Rattle.std.proofs.Common.{arith}
use Rattle.kv_journal.specs.inside.Contents.{writes_told}
use Rattle.kv_journal.proofs.Reaching.{few_retained}
use Rattle.kv_journal.proofs.RisingWrites.{rise_last}
use Rattle.kv_journal.proofs.course.Course.finish.Goals as goal

pub settle-requires-clause-later : goal.settle-requires-clause-later
settle-requires-clause-later c =
    let reachable = c.ends.ensures.yes c.if-not-ends.false in
    omega (arith, c.requires.course.last, rise_last 0 c.args.contents.now.numbers.last (writes_told c.args.contents.now.writes.items) reachable.rise)

pub settle-requires-clause-few : goal.settle-requires-clause-few
settle-requires-clause-few c =
    few_retained c.args.self.config.now (writes_told c.args.contents.now.writes.items) c.args.contents.now.numbers.last c.args.contents.now.numbers.values c.args.contents.now.numbers.floor (c.ends.ensures.yes c.if-not-ends.false)
