use Rattle.std.proofs.Common.{◌≡◌, take}
use Rattle.std.specs.List.{flat_map}
use Rattle.kv_store.specs.inside.Selected.{initial_at}
use Rattle.kv_store.proofs.listing.looked_up.Given as goal

abbrev pub invariant-loop-key : goal.invariant-loop-key
invariant-loop-key l = l.found.items ≡ flat_map (initial_at l.start l.by_key) (take l.key-index l.keys)
