-- Where a key stands in a hash trie.
use Rattle.std.specs.Prelude.{ℕ, ◌*◌, ◌%◌, ◌^◌, List, fold, bit_xor}

-- FNV-1a, 32 bits: for each byte the exclusive-or with it, and then a product modulo 2^32
unfoldable pub fnv32_of : List ℕ → ℕ
fnv32_of bytes = fold (λ hash byte. (bit_xor hash byte * 16777619) % 2 ^ 32) 2166136261 bytes
