use Rattle.std.proofs.Common.{◌≡◌, map, take}
use Rattle.kv_store.proofs.listing.revisions_in.Given as goal

abbrev pub invariant-loop-numbered : goal.invariant-loop-numbered
invariant-loop-numbered l = l.found.items ≡ map (λ f. f.1.now.last.revision) (take l.numbered-index l.entries)
