use Rattle.kv_trie.proofs.Bits.{branch_of}
use Rattle.kv_trie.proofs.laws.branch_is_map_and_children.Goals as goal

pub returns : goal.returns
returns g c = branch_of g.K.Place.place_of
