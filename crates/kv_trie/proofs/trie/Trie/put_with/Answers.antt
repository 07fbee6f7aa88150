use Rattle.std.proofs.Common.{◌≡◌, length, sym, ap, ◌∙◌, subst}
use Rattle.kv_trie.specs.Form.{order, Ascends, put_pair}
use Rattle.kv_trie.specs.Stored.{shape_of}
use Rattle.kv_trie.specs.Trie.{root_pairs}
use Rattle.kv_trie.proofs.Maps.{Ascends-node, length-put-order, lookup-put}
use Rattle.kv_trie.proofs.trie.Trie.put_with.Goals as goal
use Rattle.kv_trie.proofs.trie.Trie.put_with.Goals.{After-count_with}

-- the pairs below the new root
made : (g : _) (c : After-count_with g) → root_pairs c.put.new.node ≡ put_pair (order g.K.Ord.cmp g.K.Place.place_of 7) c.args.pending.now.pair c.args.self.now
made g c = rw c.self.view_is at c.in_ok-found.ensures.form.has

pub invariant_of-self-2 : goal.invariant_of-self-2
invariant_of-self-2 g c =
    let ascends = subst (Ascends (order g.K.Ord.cmp g.K.Place.place_of 7)) c.self.view_is (Ascends-node g.K.Ord.cmp g.K.Place.place_of 7 (shape_of c.self.inside.root) c.self.invariant.1) in
    let counted = length-put-order g.met.K.Ord.total g.K.Place.place_of g.met.K.Place.respects_equal 7 c.args.pending.now.pair c.args.self.now ascends in
    (rw (c.in_ok-found.ensures.found, c.self.invariant.0, c.self.view_is) at c.count_with.ensures ∙ sym counted ∙ ap length (sym (made g c)), c.in_ok-found.ensures.form.form)

pub returns-clause-put : goal.returns-clause-put
returns-clause-put g c = (
  made g c,
  λ q.
      rw (made g c) (lookup-put g.met.K.Ord.total g.K.Place.place_of g.met.K.Place.respects_equal 7 c.args.pending.now.pair c.args.self.now q),
)
