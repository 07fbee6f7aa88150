use Rattle.std.proofs.Common.{◌≡◌, ◌-◌}
use Rattle.kv_frames.specs.Checksum.{shifted_by}
use Rattle.kv_frames.proofs.crc.shifted_by_eight.Given as goal

abbrev pub invariant-loop : goal.invariant-loop
invariant-loop l = shifted_by (8 - l.counter) l.n ≡ shifted_by 8 l.fn.n
