use Rattle.std.proofs.Common.{◌≡◌, false, drop}
use Rattle.kv_keys.proofs.KeyBytes.{goes_on}
use Rattle.kv_keys.proofs.grammar.are_key_tokens.Given as goal

-- what is left decides
abbrev pub invariant-loop-byte : goal.invariant-loop-byte
invariant-loop-byte l = goes_on l.has_begun (drop l.byte-index l.bytes) ≡ goes_on false l.bytes
