use Rattle.kv_trie.proofs.Looking.{IsOnly}
use Rattle.kv_trie.specs.Stored.{shape_of}
use Rattle.std.proofs.Common.{map}
use Rattle.kv_trie.proofs.remove.look.Given as goal

abbrev pub invariant-loop-at : goal.invariant-loop-at
invariant-loop-at g l = IsOnly (map shape_of l.children) l.only l.at
