use Rattle.kv_race.proofs.Hearing.{heard_more, begin_all_next, begin_all_whole}
use Rattle.kv_race.proofs.ending.hear_all.Goals as goal

pub loop-n-preserved : goal.loop-n-preserved
loop-n-preserved g c =
    let before = c.loop-n.feed.reader.told in
    let after = c.hear.new.feed.reader.told in
    let heard = c.hear.ensures.heard in record {
      heard = heard_more c.args.feed.now c.loop-n.feed c.hear.new.feed c.loop-n.invariant.heard heard;
      told = begin_all_next (λ some. some.items) before after c.args.answers.now c.loop-n.n c.index-answers-n.result c.loop-n-test.true c.index-answers-n.is heard.former c.loop-n.invariant.told c.hear.ensures.told;
    }

pub returns-clause-told : goal.returns-clause-told
returns-clause-told g c = begin_all_whole (λ some. some.items) c.loop-n.feed.reader.told c.args.answers.now c.loop-n.n c.loop-n-test.false c.loop-n.invariant.told
