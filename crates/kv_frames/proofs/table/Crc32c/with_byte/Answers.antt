use Rattle.std.proofs.Common.{◌≡◌, ℕ, ◌/◌, ◌%◌, get_or, ap, sym, ◌∙◌, arith}
use Rattle.std.specs.Prelude.{bit_xor}
use Rattle.std.proofs.lemmas.Nat.{mod_below}
use Rattle.kv_frames.specs.Checksum.{shifted_by}
use Rattle.kv_frames.proofs.Linear.{one_byte}
use Rattle.kv_frames.proofs.table.Crc32c.with_byte.Goals as goal

pub returns : goal.returns
returns c =
    let entries = c.args.self.now.entries in
    let crc = c.args.crc in
    let at : get_or entries (bit_xor crc c.args.byte % 256) 0 ≡ shifted_by 8 (bit_xor crc c.args.byte % 256) =
    c.args.self.now.filled (bit_xor crc c.args.byte % 256) (mod_below (bit_xor crc c.args.byte) 256 (omega arith)) in
    ap (λ (b : ℕ). bit_xor (crc / 256) (get_or entries (bit_xor crc b % 256) 0)) c.from.ensures
    ∙ ap (λ (z : ℕ). bit_xor (crc / 256) z) at ∙ sym (one_byte crc c.args.byte (omega (arith, c.ranges.byte.fits)))
