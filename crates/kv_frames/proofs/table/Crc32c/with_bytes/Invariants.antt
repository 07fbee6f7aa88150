use Rattle.std.proofs.Common.{◌≡◌, take}
use Rattle.std.specs.List.{fold}
use Rattle.kv_frames.specs.Checksum.{with_byte}
use Rattle.kv_frames.proofs.table.Crc32c.with_bytes.Given as goal

abbrev pub invariant-loop-byte : goal.invariant-loop-byte
invariant-loop-byte l = l.crc ≡ fold with_byte l.fn.crc (take l.byte-index l.bytes)
