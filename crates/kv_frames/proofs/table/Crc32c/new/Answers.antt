use Rattle.std.proofs.Common.{◌<◌, ◌≢◌, length, arith, get_or-set_other, get_or-set_same, length-set, below_more, ◌∙◌}
use Rattle.kv_frames.proofs.table.Crc32c.new.Goals as goal

pub loop-i-preserved : goal.loop-i-preserved
loop-i-preserved c = record {
  sized = length-set c.loop-i.entries c.loop-i.i c.shifted_by_eight.result ∙ c.loop-i.invariant.sized;
  filled = below_more _ _
      (λ k h. let ne : k ≢ c.loop-i.i = omega arith in rw get_or-set_other (c.loop-i.invariant.filled k h))
      (let lt : c.loop-i.i < length c.loop-i.entries = omega (arith, c.loop-i-test.true, c.loop-i.invariant.sized) in rw get_or-set_same c.shifted_by_eight.ensures);
}
