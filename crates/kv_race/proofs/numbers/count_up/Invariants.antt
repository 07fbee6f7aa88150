use Rattle.std.proofs.Common.{◌≡◌, take}
use Rattle.std.specs.List.{range_with_len}
use Rattle.kv_race.proofs.numbers.count_up.Given as goal

-- the numbers so far count up
abbrev pub invariant-loop-n : goal.invariant-loop-n
invariant-loop-n l = take l.n l.numbers ≡ range_with_len 1 l.n
