use Rattle.std.proofs.Common.{◌≡◌, take}
use Rattle.std.specs.List.{flat_map}
use Rattle.kv_trie.specs.Numbered.{lent}
use Rattle.kv_store.specs.inside.Selected.{last_at_key}
use Rattle.kv_store.proofs.listing.last_looked_up.Given as goal

abbrev pub invariant-loop-key : goal.invariant-loop-key
invariant-loop-key l = lent l.found.items ≡ flat_map (last_at_key l.by_key) (take l.key-index l.keys)
