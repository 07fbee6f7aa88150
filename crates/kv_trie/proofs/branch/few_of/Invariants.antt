use Rattle.std.proofs.Common.{◌≡◌, ◌-◌, map, drop}
use Rattle.kv_trie.specs.Stored.{shape_of, slots_from, few_slots}
use Rattle.kv_trie.proofs.branch.few_of.Given as goal

abbrev pub invariant-loop-done : goal.invariant-loop-done
invariant-loop-done g l = few_slots l.few ≡ slots_from (32 - l.done) (drop (32 - l.done) (map shape_of l.children))
