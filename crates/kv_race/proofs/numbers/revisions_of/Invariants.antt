use Rattle.std.proofs.Common.{◌≡◌, map, take}
use Rattle.kv_race.specs.Racing.{revisions_in}
use Rattle.kv_race.proofs.numbers.revisions_of.Given as goal

-- the revisions of the workers so far were added
abbrev pub invariant-loop-n : goal.invariant-loop-n
invariant-loop-n l = l.revisions.items ≡ revisions_in (take l.n (map (λ some. some.items) l.replies))
