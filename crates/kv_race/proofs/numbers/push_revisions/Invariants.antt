use Rattle.std.proofs.Common.{◌≡◌, ◌++◌, take}
use Rattle.std.specs.List.{filter_map}
use Rattle.std.specs.Result.{result_ok}
use Rattle.kv_race.proofs.numbers.push_revisions.Given as goal

-- the revisions of the replies so far were added
abbrev pub invariant-loop-n : goal.invariant-loop-n
invariant-loop-n l = l.revisions.items ≡ l.fn.revisions.items ++ filter_map result_ok (take l.n l.replies.items)
