use Rattle.std.proofs.Common.{[], take}
use Rattle.kv_bucket.specs.FeedState.{HasLearned}
use Rattle.kv_race.specs.Telling.{Begin}
use Rattle.kv_race.proofs.ending.hear.Given as goal

-- the receipts so far were taken in
abbrev pub invariant-loop-n : goal.invariant-loop-n
invariant-loop-n g l = record {
  heard : HasLearned [] l.fn.feed l.feed;
  told : Begin l.feed.reader.told (take l.n l.answers.items);
}
