use Rattle.std.proofs.Common.{◌-◌, ◌+◌, sym, ap, ◌∙◌}
use Rattle.kv_frames.specs.Checksum.{shifted_by}
use Rattle.kv_frames.proofs.Bytes.{one_bit, no_bit_left}
use Rattle.kv_frames.proofs.crc.shifted_by_eight.Goals as goal

pub loop-preserved : goal.loop-preserved
loop-preserved c =
    ap (shifted_by (8 - (c.loop.counter + 1))) c.shifted-n.ensures
    ∙ sym (one_bit c.loop.counter c.loop.n c.loop-test.true) ∙ c.loop.invariant

pub returns : goal.returns
returns c = sym (no_bit_left c.loop.counter c.loop.n c.loop-test.false) ∙ c.loop.invariant
