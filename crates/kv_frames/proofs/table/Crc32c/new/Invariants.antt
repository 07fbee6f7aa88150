use Rattle.std.proofs.Common.{◌≡◌, ℕ, ◌<◌, length, get_or}
use Rattle.kv_frames.specs.Checksum.{shifted_by}
use Rattle.kv_frames.proofs.table.Crc32c.new.Given as goal

abbrev pub invariant-loop-i : goal.invariant-loop-i
invariant-loop-i l = record {
  sized : length l.entries ≡ 256;
  filled : (k : ℕ) → k < l.i → get_or l.entries k 0 ≡ shifted_by 8 k;
}
