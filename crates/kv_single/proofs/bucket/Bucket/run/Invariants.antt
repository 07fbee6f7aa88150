use Rattle.std.proofs.Common.{take}
use Rattle.kv_single.specs.Stepping.{IsRun}
use Rattle.kv_single.proofs.bucket.Bucket.run.Given as goal

abbrev pub invariant-loop-call : goal.invariant-loop-call
invariant-loop-call l = IsRun l.fn.self (take l.call-index l.calls) l.fn.replies.items l.replies.items l.self
