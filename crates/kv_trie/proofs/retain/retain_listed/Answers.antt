use Rattle.std.proofs.Common.{◌∙◌, ap, arith, map, length}
use Rattle.std.specs.Arc.{arc_value}
use Rattle.std.proofs.lemmas.List.{length-map}
use Rattle.kv_trie.specs.Form.{listed}
use Rattle.kv_trie.specs.Retain.{is_wanted}
use Rattle.kv_trie.proofs.Canonical.{filter_all}
use Rattle.kv_trie.proofs.Retaining.{all_left, list_left, filter_le}
use Rattle.kv_trie.proofs.retain.retain_listed.Goals as goal

pub returns-in-None-clause-retained : goal.returns-in-None-clause-retained
returns-in-None-clause-retained g c =
    all_left g.K.Ord.cmp g.K.Place.place_of (is_wanted (g.W.Wants.wanted c.args.wants.now)) 0 (map arc_value c.args.pairs.now.items) (rw c.deref.ensures.value at c.in-None.ensures)

pub returns-in-None-clause-count : goal.returns-in-None-clause-count
returns-in-None-clause-count g c =
    let e = filter_all (is_wanted (g.W.Wants.wanted c.args.wants.now)) (map arc_value c.args.pairs.now.items) (rw c.deref.ensures.value at c.in-None.ensures) in
    omega (arith, ap length e, length-map c.args.pairs.now.items arc_value)

pub overflow_sub-gone : goal.overflow_sub-gone
overflow_sub-gone g c =
    let keep = is_wanted (g.W.Wants.wanted c.args.wants.now) in
    let e = rw c.deref-2.ensures.value at c.in_ok-kept.ensures in
    omega (arith, ap length e, length-map c.in_ok-kept.kept.items arc_value, length-map c.args.pairs.now.items arc_value, filter_le keep (map arc_value c.args.pairs.now.items), c.len.ensures, c.len-2.ensures, c.in_ok-kept.kept.ok.0, c.args.pairs.now.ok.0)

pub returns-clause-retained : goal.returns-clause-retained
returns-clause-retained g c =
    let e = rw c.deref-2.ensures.value at c.in_ok-kept.ensures in
    list_left g.K.Ord.cmp g.K.Place.place_of (is_wanted (g.W.Wants.wanted c.args.wants.now)) (map arc_value c.args.pairs.now.items) c.in_ok-listed.field-0 c.requires.form.1 (c.in_ok-listed.ensures ∙ ap listed e)

pub returns-clause-count : goal.returns-clause-count
returns-clause-count g c =
    let keep = is_wanted (g.W.Wants.wanted c.args.wants.now) in
    let e = rw c.deref-2.ensures.value at c.in_ok-kept.ensures in
    omega (arith, ap length e, length-map c.in_ok-kept.kept.items arc_value, length-map c.args.pairs.now.items arc_value, filter_le keep (map arc_value c.args.pairs.now.items), c.len.ensures, c.len-2.ensures, c.in_ok-kept.kept.ok.0, c.args.pairs.now.ok.0)
