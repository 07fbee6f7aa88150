use Rattle.std.proofs.Common.{rules, ◌≤◌, length, map, refl, arith}
use Rattle.std.proofs.lemmas.List.{length-map}
use Rattle.std.specs.Arc.{arc_value}
use Rattle.std.specs.BTreeMap.{is_at}
use Rattle.std.specs.Map.{remove_entry}
use Rattle.std.specs.Result.{IsOk}
use Rattle.kv_trie.proofs.Clones.{kept_list}
use Rattle.kv_trie.proofs.Removal.{left_is, length-remove_entry}
use Rattle.kv_trie.proofs.list.remove_from_shared.Goals as goal

pub returns-in_err-own-clause-unchanged : goal.returns-in_err-own-clause-unchanged
returns-in_err-own-clause-unchanged g c =
    let same = kept_list (arc_value c.args.list.now) (arc_value c.make_mut.follows.lender-at-none) (rw c.in_err-own.was at c.make_mut.follows.holds-at-none) in
    search (rules, same)

pub remove_from_list-requires-clause-order : goal.remove_from_list-requires-clause-order
remove_from_list-requires-clause-order g c =
    let same = kept_list (arc_value c.args.list.now) c.in_ok-own.own.now c.in_ok-own.ensures.value in
    rw same c.requires.order

pub remove_from_list-requires-clause-there : goal.remove_from_list-requires-clause-there
remove_from_list-requires-clause-there g c =
    let same = kept_list (arc_value c.args.list.now) c.in_ok-own.own.now c.in_ok-own.ensures.value in
    rw same c.requires.there

pub returns-clause-pairs : goal.returns-clause-pairs
returns-clause-pairs g c =
    let same = kept_list (arc_value c.args.list.now) c.in_ok-own.own.now c.in_ok-own.ensures.value in
    let ok : IsOk c.make_mut.result = rw c.in_ok-own.was refl in
    let olds = map arc_value (arc_value c.args.list.now).items in
    let fewer = length-remove_entry (is_at (g.K.Ord.cmp c.args.key.now)) olds c.requires.there in
    let some : 1 ≤ length (remove_entry (is_at (g.K.Ord.cmp c.args.key.now)) olds) = omega (arith, fewer, c.requires.more, length-map (arc_value c.args.list.now).items arc_value) in
    rw (c.make_mut.follows.holds c.take_only.new.items ok) (left_is c.take_only.result c.remove_from_list.new.pairs c.take_only.new.items _ (rw same at c.remove_from_list.ensures) some c.take_only.ensures)
