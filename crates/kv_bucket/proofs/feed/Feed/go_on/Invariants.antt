use Rattle.kv_bucket.specs.FeedState.{WentOn}
use Rattle.kv_bucket.proofs.feed.Feed.go_on.Given as goal

-- it went on from where it was
abbrev pub invariant-loop : goal.invariant-loop
invariant-loop g l = WentOn l.fn.self l.self
