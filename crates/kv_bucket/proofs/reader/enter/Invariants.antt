use Rattle.std.proofs.Common.{IsSome}
use Rattle.kv_bucket.proofs.reader.enter.Given as goal

-- the reader has its place
abbrev pub invariant-loop : goal.invariant-loop
invariant-loop g l = IsSome l.slot
