use Rattle.std.proofs.Common.{◌≡◌, map, take}
use Rattle.kv_model.specs.State.{read_entry}
use Rattle.kv_single.proofs.reply.copy_writes.Given as goal

abbrev pub invariant-loop-write : goal.invariant-loop-write
invariant-loop-write l = l.copies.items ≡ map read_entry (map (λ w. w.now) (take l.write-index l.writes))
