use Rattle.std.proofs.Common.{◌≡◌, map, take}
use Rattle.kv_store.proofs.listing.keys_in.Given as goal

abbrev pub invariant-loop-numbered : goal.invariant-loop-numbered
invariant-loop-numbered l = map (λ k. k.now) l.found.items ≡ map (λ f. f.1.now.last.key) (take l.numbered-index l.entries)
