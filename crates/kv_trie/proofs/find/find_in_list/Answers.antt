use Rattle.std.proofs.Common.{rules, ◌<◌, length, Some, sym, ap, ◌∙◌}
use Rattle.std.proofs.lemmas.List.{length-map}
use Rattle.std.specs.Arc.{arc_value}
use Rattle.kv_trie.proofs.Lists.{found_value}
use Rattle.kv_trie.proofs.find.find_in_list.Goals as goal

pub offset_bounds-pairs-at : goal.offset_bounds-pairs-at
offset_bounds-pairs-at g c =
    let within : c.in-Ok.at < length c.args.pairs.now = rw (length-map c.args.pairs.now arc_value) at c.in-Ok.ensures.found.within in
    search rules

pub bounds-pairs-at : goal.bounds-pairs-at
bounds-pairs-at g c = rw (length-map c.args.pairs.now arc_value) at c.in-Ok.ensures.found.within

pub returns-in-Ok : goal.returns-in-Ok
returns-in-Ok g c =
    ap (λ e. Some e.1) c.deref.ensures ∙ sym (found_value g.K.Ord.cmp c.args.key.now c.args.pairs.now c.in-Ok.at c.index-pairs-at.result c.in-Ok.ensures.found c.index-pairs-at.is)

pub returns-in-Err : goal.returns-in-Err
returns-in-Err g c = sym (c.in-Err.ensures.absent.absent c.requires)
