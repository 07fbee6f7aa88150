use Rattle.std.proofs.Common.{◌≡◌, length}
use Rattle.kv_file.proofs.memory.tail_of.Given as goal

abbrev pub invariant-loop-byte : goal.invariant-loop-byte
invariant-loop-byte l = length l.tail.items ≡ l.byte-index
