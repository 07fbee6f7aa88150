use Rattle.std.proofs.Common.{◌≡◌, ◌++◌, Ok, map}
use Rattle.std.specs.Vec.Iter.{into_iter_items}
use Rattle.kv_race.proofs.racing.all_answers.Given as goal

-- the answers so far, and those that are left
abbrev pub invariant-loop-one : goal.invariant-loop-one
invariant-loop-one g l = map Ok l.all.items ++ into_iter_items l.one-iterator ≡ l.fn.worked.items
