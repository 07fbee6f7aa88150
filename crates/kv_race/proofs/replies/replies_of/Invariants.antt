use Rattle.std.proofs.Common.{◌≡◌, map, take}
use Rattle.kv_race.specs.Telling.{reply_of}
use Rattle.kv_race.proofs.replies.replies_of.Given as goal

abbrev pub invariant-loop-n : goal.invariant-loop-n
invariant-loop-n g l = l.replies.items ≡ map reply_of (take l.n l.answers.items)
