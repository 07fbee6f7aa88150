use Rattle.std.proofs.Common.{◌≡◌, ◌-◌, length, map, drop}
use Rattle.kv_trie.specs.Stored.{shape_of, slots_at, child_slots}
use Rattle.kv_trie.proofs.branch.spread.Given as goal

abbrev pub invariant-loop-done : goal.invariant-loop-done
invariant-loop-done g l =
    (length l.children ≡ 32)
    × (child_slots l.children ≡ slots_at (drop (4 - l.done) l.few.indices) (drop (4 - l.done) (map shape_of l.few.children)))
