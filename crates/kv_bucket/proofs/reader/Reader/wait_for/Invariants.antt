use Rattle.kv_bucket.specs.FeedState.{HasSeenMore}
use Rattle.kv_bucket.proofs.reader.Reader.wait_for.Given as goal

-- it has seen more, or as much as before
abbrev pub invariant-loop : goal.invariant-loop
invariant-loop g l = HasSeenMore l.fn.self l.self
