use Rattle.std.proofs.Common.{◌≡◌, length}
use Rattle.kv_trie.specs.Stored.{few_slots}
use Rattle.kv_trie.proofs.branch.close.Given as goal

abbrev pub invariant-loop-to : goal.invariant-loop-to
invariant-loop-to g l = (length l.few.indices ≡ 4) × (length l.few.children ≡ 4) × (few_slots l.few ≡ few_slots l.initial.few)
