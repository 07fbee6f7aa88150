use Rattle.kv_trie.proofs.OneMap.{one_list}
use Rattle.kv_trie.proofs.laws.one_map_is_one_list.Goals as goal

pub returns : goal.returns
returns g c = one_list g.met.K.Ord.total g.K.Place.place_of g.met.K.Place.respects_equal
