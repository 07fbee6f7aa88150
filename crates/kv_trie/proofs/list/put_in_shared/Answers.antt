use Rattle.std.proofs.Common.{rules, refl}
use Rattle.std.specs.Arc.{arc_value}
use Rattle.std.specs.Result.{IsOk}
use Rattle.kv_trie.proofs.Clones.{kept_list}
use Rattle.kv_trie.proofs.list.put_in_shared.Goals as goal

pub returns-in_err-own-clause-unchanged : goal.returns-in_err-own-clause-unchanged
returns-in_err-own-clause-unchanged g c =
    let same = kept_list (arc_value c.args.list.now) (arc_value c.make_mut.follows.lender-at-none) (rw c.in_err-own.was at c.make_mut.follows.holds-at-none) in
    search (rules, same)

pub returns-clause-pairs : goal.returns-clause-pairs
returns-clause-pairs g c =
    let same = kept_list (arc_value c.args.list.now) c.in_ok-own.own.now c.in_ok-own.ensures.value in
    let ok : IsOk c.make_mut.result = rw c.in_ok-own.was refl in
    rw (c.make_mut.follows.holds c.put_in_list.new.pairs ok, ← same) c.put_in_list.ensures.pairs

pub returns-clause-found : goal.returns-clause-found
returns-clause-found g c =
    let same = kept_list (arc_value c.args.list.now) c.in_ok-own.own.now c.in_ok-own.ensures.value in
    rw (← same) c.put_in_list.ensures.found

pub returns-clause-unchanged : goal.returns-clause-unchanged
returns-clause-unchanged g c =
    let same = kept_list (arc_value c.args.list.now) c.in_ok-own.own.now c.in_ok-own.ensures.value in
    let ok : IsOk c.make_mut.result = rw c.in_ok-own.was refl in
    rw (c.make_mut.follows.holds c.put_in_list.new.pairs ok, ← same) c.put_in_list.ensures.unchanged

pub put_in_list-requires-clause-order : goal.put_in_list-requires-clause-order
put_in_list-requires-clause-order g c =
    let same = kept_list (arc_value c.args.list.now) c.in_ok-own.own.now c.in_ok-own.ensures.value in
    rw same c.requires.order
