use Rattle.std.proofs.Common.{◌≡◌, length, map, take}
use Rattle.kv_trie.specs.Stored.{shape_of}
use Rattle.kv_trie.proofs.branch.share.Given as goal

abbrev pub invariant-loop-at : goal.invariant-loop-at
invariant-loop-at g l = (length l.children ≡ 32) × (map shape_of (take l.at l.children) ≡ map shape_of (take l.at l.others))
