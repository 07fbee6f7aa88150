use Rattle.std.proofs.Common.{◌≡◌, ◌++◌, drop, map}
use Rattle.kv_single.specs.Replies.{answer_of}
use Rattle.kv_run.specs.Reporting.{seen_text}
use Rattle.kv_run.proofs.races.reporting.append_seen.Given as goal

-- the lines so far and those of what is left are those of all
abbrev pub invariant-loop-n : goal.invariant-loop-n
invariant-loop-n l = l.out.items ++ seen_text l.form l.watch (map answer_of (drop l.n l.seen)) ≡ l.fn.out.items ++ seen_text l.form l.watch (map answer_of l.seen)
