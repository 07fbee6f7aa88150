use Rattle.std.proofs.Common.{◌≡◌, map, take}
use Rattle.kv_single.proofs.reply.copy_keys.Given as goal

abbrev pub invariant-loop-key : goal.invariant-loop-key
invariant-loop-key l = l.copies.items ≡ map (λ k. k.now) (take l.key-index l.keys)
