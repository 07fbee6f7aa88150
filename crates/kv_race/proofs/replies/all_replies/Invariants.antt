use Rattle.std.proofs.Common.{◌≡◌, map, take}
use Rattle.kv_race.specs.Telling.{reply_of}
use Rattle.kv_race.proofs.replies.all_replies.Given as goal

abbrev pub invariant-loop-n : goal.invariant-loop-n
invariant-loop-n g l = map (λ some. some.items) l.replies.items ≡ map (λ some. map reply_of some.items) (take l.n l.answers)
