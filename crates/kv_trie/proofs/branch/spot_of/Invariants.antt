use Rattle.std.proofs.Common.{◌≡◌, drop, map}
use Rattle.kv_trie.specs.Form.{child_at}
use Rattle.kv_trie.specs.Stored.{shape_of, slots_at, few_slots}
use Rattle.kv_trie.proofs.branch.spot_of.Given as goal

abbrev pub invariant-loop-spot : goal.invariant-loop-spot
invariant-loop-spot g l = child_at l.at (few_slots l.few) ≡ child_at l.at (slots_at (drop l.spot l.few.indices) (drop l.spot (map shape_of l.few.children)))
