use Rattle.kv_trie.proofs.OneMap.{same_entries_in_order}
use Rattle.kv_trie.proofs.laws.one_map_has_one_list.Goals as goal

pub returns : goal.returns
returns g c = same_entries_in_order g.met.K.Ord.total g.K.Place.place_of g.met.K.Place.respects_equal
