use Rattle.std.proofs.Common.{sym, subst, ap, ◌∙◌}
use Rattle.std.specs.List.{flat_map}
use Rattle.std.specs.List.Sorted.{IsPermutation}
use Rattle.kv_keys.specs.Places.{fnv32_of}
use Rattle.kv_store.specs.Asked.{AreAsked}
use Rattle.kv_store.specs.inside.Selected.{initial_at, initial_of}
use Rattle.kv_store.proofs.LookingUp.{looked_up_all}
use Rattle.kv_store.proofs.Outcomes.{then_ok, was_ok}
use Rattle.kv_store.proofs.listing.found_of.Goals as goal

pub returns-in-Some : goal.returns-in-Some
returns-in-Some g c =
    let wants = g.W.Wanted.wants_key c.args.wanted.now in
    let start = c.args.start in
    let entries = c.args.by_key.now in
    let keys = c.in-Some.keys.items in
    let found = rw (was_ok _ c.literals.result c.map_err.result c.in_ok-keys.was c.map_err.ensures.cases) at c.literals.ensures.asked in
    let asked : AreAsked wants keys = rw c.in-Some.is at found in
    then_ok c.looked_up.result _ _ c.looked_up.ensures (λ found same.
    subst (λ l. IsPermutation (flat_map (initial_of wants start) entries) l) (sym (same ∙ ap (flat_map (initial_at start entries)) c.deref.ensures.value))
    (looked_up_all wants start keys fnv32_of entries asked c.requires))
