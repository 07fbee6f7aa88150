use Rattle.std.proofs.Common.{◌≡◌, ◌-◌, length, map}
use Rattle.kv_trie.specs.Stored.{shape_of, few_slots}
use Rattle.kv_trie.proofs.Spots.{IsGap}
use Rattle.kv_trie.proofs.branch.make_place.Given as goal

abbrev pub invariant-loop-moved : goal.invariant-loop-moved
invariant-loop-moved g l =
    (length l.few.indices ≡ 4) × (length l.few.children ≡ 4) × (few_slots l.few ≡ few_slots l.initial.few)
    × IsGap l.at (3 - l.moved) l.few.indices (map shape_of l.few.children)
