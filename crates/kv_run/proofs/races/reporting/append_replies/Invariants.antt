use Rattle.std.proofs.Common.{◌≡◌, ◌++◌, drop}
use Rattle.kv_run.specs.Reporting.{replies_text}
use Rattle.kv_run.proofs.races.reporting.append_replies.Given as goal

-- the lines so far and those of what is left are those of all
abbrev pub invariant-loop-n : goal.invariant-loop-n
invariant-loop-n l = l.out.items ++ replies_text l.worker (drop l.n l.replies) ≡ l.fn.out.items ++ replies_text l.worker l.replies
