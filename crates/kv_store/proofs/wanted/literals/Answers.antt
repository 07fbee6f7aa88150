use Rattle.std.proofs.Common.{cond, [], ◌∷◌, ◌++◌, map, lit<, sym, subst, ap, ◌∙◌}
use Rattle.std.specs.List.{list_any}
use Rattle.std.specs.Str.{bytes_eq}
use Rattle.std.proofs.lemmas.Iterator.Consumers.{YieldsList-end}
use Rattle.std.proofs.lemmas.Iterator.Splits.{YieldsList-from_str_split}
use Rattle.std.proofs.lemmas.List.{map-append}
use Rattle.kv_keys.specs.Matching.{any_matches}
use Rattle.kv_store.specs.Asked.{AreAsked}
use Rattle.kv_store.proofs.Asking.{asked_none, asked_once}
use Rattle.kv_store.proofs.wanted.literals.Goals as goal

pub loop-filter-init : goal.loop-filter-init
loop-filter-init c = rw c.new-keys.ensures.items asked_none

pub loop-filter-preserved : goal.loop-filter-preserved
loop-filter-preserved c =
    let before = c.loop-filter.yielded in
    let keys = c.loop-filter.keys.items in
    let f = c.in-Some.filter in
    let both = rw c.in-Some-2.is at c.in_ok-key.ensures in
    let added = c.in_ok-add_once-in-Some-2.ensures ∙ ap (λ k. cond (list_any (λ x. bytes_eq x k) keys) keys (keys ++ k ∷ [])) both.0 in
    subst (λ fs. AreAsked (any_matches fs) c.add_once.new.keys.items) (sym (map-append (λ g. g.now) before (f ∷ [])))
    (subst (AreAsked (any_matches (map (λ g. g.now) before ++ f.now ∷ []))) (sym added) (asked_once (map (λ g. g.now) before) keys f.now both.1 c.loop-filter.invariant))

pub returns : goal.returns
returns c =
    let end = YieldsList-end (YieldsList-from_str_split 44 c.args.filters.now (lit< tt) (cc) (cc) (cc)) c.loop-filter.yielded _ c.loop-filter.yielded_by _ _ c.in-None.is c.next.ensures.steps in
    subst (λ fs. AreAsked (any_matches fs) c.loop-filter.keys.items) end.0 c.loop-filter.invariant

pub returns-in-None-2 : goal.returns-in-None-2
returns-in-None-2 c = tt
