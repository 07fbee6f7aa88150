use Rattle.std.proofs.Common.{[], map, take}
use Rattle.kv_bucket.specs.FeedState.{HasLearned}
use Rattle.kv_race.specs.Telling.{BeginAll}
use Rattle.kv_race.proofs.ending.hear_all.Given as goal

-- the receipts so far were taken in
abbrev pub invariant-loop-n : goal.invariant-loop-n
invariant-loop-n g l = record {
  heard : HasLearned [] l.fn.feed l.feed;
  told : BeginAll l.feed.reader.told (take l.n (map (λ some. some.items) l.answers));
}
