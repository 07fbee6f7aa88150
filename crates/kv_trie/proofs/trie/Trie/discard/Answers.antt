use Rattle.std.proofs.Common.{◌≡◌, length, true, sym, ap, ◌∙◌, subst, arith}
use Rattle.std.specs.BTreeMap.{is_at}
use Rattle.std.specs.Map.{lookup, remove_entry}
use Rattle.std.specs.Option.{is_some}
use Rattle.kv_trie.specs.Form.{order, Ascends}
use Rattle.kv_trie.specs.Stored.{shape_of}
use Rattle.kv_trie.specs.Trie.{root_pairs}
use Rattle.kv_trie.proofs.Maps.{Ascends-node, lookup-remove, remove_entry-absent, copied_none, copied_some}
use Rattle.kv_trie.proofs.Removal.{length-remove_entry}
use Rattle.kv_trie.proofs.trie.Trie.discard.Goals as goal
use Rattle.kv_trie.proofs.trie.Trie.discard.Goals.{In_ok-remove}

-- the pairs below the new root
left : (g : _) (c : In_ok-remove g) → root_pairs c.remove.new.node ≡ remove_entry (is_at (g.K.Ord.cmp c.args.key.now)) c.args.self.now
left g c = rw c.self.view_is at c.in_ok-remove.ensures.form.has

pub returns-then-is_none-clause-pairs : goal.returns-then-is_none-clause-pairs
returns-then-is_none-clause-pairs g c =
    let absent = sym c.get.ensures ∙ copied_none c.get.result c.if-is_none.ensures in
    sym (remove_entry-absent (is_at (g.K.Ord.cmp c.args.key.now)) c.args.self.now absent)

pub invariant_of-self-2 : goal.invariant_of-self-2
invariant_of-self-2 g c =
    let test = is_at (g.K.Ord.cmp c.args.key.now) in
    let found : is_some (lookup test c.args.self.now) ≡ true = ap is_some (sym c.get.ensures) ∙ copied_some c.get.result c.if-is_none.ensures in
    let n = length-remove_entry test c.args.self.now found in
    (omega (arith, n, c.len-entries.ensures.count, ap length (left g c)), c.in_ok-remove.ensures.form.form)

pub returns-clause-map : goal.returns-clause-map
returns-clause-map g c = λ q.
    let ascends = subst (Ascends (order g.K.Ord.cmp g.K.Place.place_of 7)) c.self.view_is (Ascends-node g.K.Ord.cmp g.K.Place.place_of 7 (shape_of c.self.inside.root) c.self.invariant.1) in
    rw (left g c) (lookup-remove g.met.K.Ord.total g.K.Place.place_of g.met.K.Place.respects_equal 7 c.args.key.now q c.args.self.now ascends)
