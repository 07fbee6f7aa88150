use Rattle.std.proofs.Common.{◌≤◌, arith, length}
use Rattle.kv_race.proofs.Hearing.{heard_more, begin_next, begin_whole}
use Rattle.kv_race.proofs.ending.hear.Goals as goal

pub loop-n-preserved : goal.loop-n-preserved
loop-n-preserved g c =
    let before = c.loop-n.feed.reader.told in
    let after = c.hear_one.new.feed.reader.told in
    let heard = c.hear_one.ensures.heard in record {
      heard = heard_more c.args.feed.now c.loop-n.feed c.hear_one.new.feed c.loop-n.invariant.heard heard;
      told = begin_next before after c.args.answers.now.items c.loop-n.n c.index.result.now (omega arith) c.index.ensures heard.former c.loop-n.invariant.told c.hear_one.ensures.told;
    }

pub returns-clause-told : goal.returns-clause-told
returns-clause-told g c =
    let l : length c.args.answers.now.items ≤ c.loop-n.n = omega arith in
    begin_whole c.loop-n.feed.reader.told c.args.answers.now.items c.loop-n.n l c.loop-n.invariant.told
