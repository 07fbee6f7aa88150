-- CRC-32C (Castagnoli, RFC 3720), and the checksum of a frame.
use Rattle.std.specs.Prelude.{ℕ, zero, suc, ◌/◌, ◌%◌, List, ◌++◌, bit_xor, ◌==◌, if◌then◌else◌, fold}
use Rattle.std.specs.Int.{w64, to_be_bytes}

-- the lowest bit is shifted out, and where it was set the polynomial is taken away
unfoldable pub shifted : ℕ → ℕ
shifted n = if n % 2 == 1 then bit_xor (n / 2) 0x82F63B78 else n / 2

-- so many bits are shifted out
unfoldable pub shifted_by : ℕ → ℕ → ℕ
shifted_by zero n = n
shifted_by (suc k) n = shifted_by k (shifted n)

-- the remainder with one more byte
unfoldable pub with_byte : ℕ → ℕ → ℕ
with_byte crc byte = shifted_by 8 (bit_xor crc byte)

-- CRC-32C of bytes
abbrev pub crc32c : List ℕ → ℕ
crc32c bytes = bit_xor (fold with_byte 0xFFFFFFFF bytes) 0xFFFFFFFF

-- The checksum of a payload at its offset: of the file's seed, of where the frame begins, and of the payload. So a frame
-- counts only in the file, and at the offset, that it was written for.
unfoldable pub checksum : (seed at : ℕ) → List ℕ → ℕ
checksum seed at payload = crc32c (to_be_bytes w64 seed ++ (to_be_bytes w64 at ++ payload))
