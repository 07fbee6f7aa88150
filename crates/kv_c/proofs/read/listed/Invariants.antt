use Rattle.std.proofs.Common.{◌≡◌, take}
use Rattle.std.specs.Prelude.{map}
use Rattle.kv_c.specs.Codes.{listed}
use Rattle.kv_c.proofs.read.listed.Given as goal

abbrev pub invariant-loop-key : goal.invariant-loop-key
invariant-loop-key l = l.text.items ≡ listed (map (λ k. k.now) (take l.key-index l.keys))
