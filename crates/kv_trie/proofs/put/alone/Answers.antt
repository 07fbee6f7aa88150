use Rattle.std.proofs.Common.{refl}
use Rattle.kv_trie.proofs.Stored.{shape_of-Leaf, shape_of-Empty}
use Rattle.kv_trie.proofs.put.alone.Goals as goal

pub returns-clause-slots : goal.returns-clause-slots
returns-clause-slots g c = rw (shape_of-Leaf c.args.pair, shape_of-Empty refl) refl

pub returns-clause-room : goal.returns-clause-room
returns-clause-room g c = shape_of-Empty refl
