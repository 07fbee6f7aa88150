use Rattle.std.proofs.Common.{rules, map, refl, sym, ap, ◌∙◌, arith}
use Rattle.std.proofs.lemmas.List.{length-map, map-set}
use Rattle.std.proofs.lemmas.Option.{slice_get-get_or}
use Rattle.std.proofs.Math.Seq.{map-set_same}
use Rattle.std.specs.Arc.{arc_value}
use Rattle.std.specs.Option.{is_some, option_map}
use Rattle.kv_trie.proofs.Clones.{map-insert}
use Rattle.kv_trie.proofs.list.put_in_list.Goals as goal

pub returns-in_ok-replace-in-Ok-clause-pairs : goal.returns-in_ok-replace-in-Ok-clause-pairs
returns-in_ok-replace-in-Ok-clause-pairs g c =
    let place = rw (c.deref.ensures.value, c.key.ensures) at c.in-Ok.ensures.found in
    map-set arc_value c.args.pairs.now.items c.in-Ok.at c.replace.new.old ∙ rw c.in_ok-replace-in-Ok.ensures.put (sym (place.put c.args.pending.now.pair.1))

pub returns-in_err-replace-in-Ok-clause-unchanged : goal.returns-in_err-replace-in-Ok-clause-unchanged
returns-in_err-replace-in-Ok-clause-unchanged g c =
    let same = map-set_same arc_value c.args.pairs.now.items c.in-Ok.at c.replace.new.old c.index_mut.result.now (c.in_err-replace-in-Ok.ensures.unchanged ∙ ap arc_value c.index_mut.ensures.value) in
    search (rules, same)

pub returns-in_ok-replace-in-Ok-clause-found : goal.returns-in_ok-replace-in-Ok-clause-found
returns-in_ok-replace-in-Ok-clause-found g c =
    let place = rw (c.deref.ensures.value, c.key.ensures) at c.in-Ok.ensures.found in
    let there = slice_get-get_or (map arc_value c.args.pairs.now.items) c.in-Ok.at c.args.pending.now.pair place.within in
    sym (ap is_some (place.found ∙ ap (option_map (λ p. p.1)) there))

pub returns-in-Ok-insert-clause-pairs : goal.returns-in-Ok-insert-clause-pairs
returns-in-Ok-insert-clause-pairs g c =
    let gap = rw (c.deref.ensures.value, c.key.ensures) at c.in-Err.ensures.absent in
    ap (λ l. map arc_value l) c.in-Ok-insert.ensures.items
    ∙ map-insert arc_value c.reserve.new.self.items c.in-Err.at c.in_ok-pair-in-Err.pair
    ∙ rw (c.in_ok-pair-in-Err.ensures, c.reserve.ensures.items) refl
    ∙ sym (gap.put c.args.pending.now.pair.1)

pub index_mut-requires : goal.index_mut-requires
index_mut-requires g c =
    let place = rw c.deref.ensures.value at c.in-Ok.ensures.found in
    omega (arith, place.within, length-map c.args.pairs.now.items arc_value, c.args.pairs.now.ok.0)

pub insert-requires : goal.insert-requires
insert-requires g c =
    let gap = rw c.deref.ensures.value at c.in-Err.ensures.absent in
    omega (arith, gap.within, length-map c.args.pairs.now.items arc_value, c.args.pairs.now.ok.0, c.reserve.ensures.len)

pub unreachable-requires : goal.unreachable-requires
unreachable-requires g c = omega (arith, c.in-Err-insert.ensures.full, c.in_ok-reserve-in-Err.ensures.ok)

pub returns-in-Ok-insert-clause-found : goal.returns-in-Ok-insert-clause-found
returns-in-Ok-insert-clause-found g c =
    let gap = rw (c.deref.ensures.value, c.key.ensures) at c.in-Err.ensures.absent in
    sym (ap is_some (gap.absent c.requires.order))
