use Rattle.kv_trie.proofs.Retaining.{lookup-retain}
use Rattle.kv_trie.proofs.trie.Trie.retain.Goals as goal

pub returns-clause-map : goal.returns-clause-map
returns-clause-map g c = λ q.
    rw (c.in_ok-root.ensures.retained.1, c.self.view_is) (lookup-retain g.met.K.Ord.total g.K.Place.place_of g.met.K.Place.respects_equal 7 q (g.W.Wants.wanted c.args.wants.now) c.args.self.now c.len-entries.ensures.ordered)
