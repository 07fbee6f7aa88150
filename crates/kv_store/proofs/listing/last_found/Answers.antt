use Rattle.std.proofs.Common.{sym, subst, ap, ◌∙◌}
use Rattle.std.specs.List.{flat_map}
use Rattle.std.specs.List.Sorted.{IsPermutation}
use Rattle.std.proofs.lemmas.List.Sorted.{IsPermutation-refl}
use Rattle.kv_keys.specs.Places.{fnv32_of}
use Rattle.kv_store.specs.Asked.{AreAsked}
use Rattle.kv_store.specs.inside.Selected.{last_at_key, last_of_entry}
use Rattle.kv_store.proofs.Latest.{numbered_alike}
use Rattle.kv_store.proofs.LookingUp.{lasts_looked_up}
use Rattle.kv_store.proofs.Outcomes.{then_ok, was_ok}
use Rattle.kv_store.proofs.listing.last_found.Goals as goal

pub returns-in-Some : goal.returns-in-Some
returns-in-Some g c =
    let wants = g.W.Wanted.wants_key c.args.wanted.now in
    let entries = c.args.by_key.now in
    let keys = c.in-Some.keys.items in
    let found = rw (was_ok _ c.literals.result c.map_err.result c.in_ok-keys.was c.map_err.ensures.cases) at c.literals.ensures.asked in
    let asked : AreAsked wants keys = rw c.in-Some.is at found in
    then_ok c.last_looked_up.result _ _ c.last_looked_up.ensures (λ found same.
    subst (λ l. IsPermutation (flat_map (last_of_entry wants) entries) l) (sym (same ∙ ap (flat_map (last_at_key entries)) c.deref.ensures.value))
    (lasts_looked_up wants keys fnv32_of entries asked c.requires))

pub returns-in-None : goal.returns-in-None
returns-in-None g c =
    let wants = g.W.Wanted.wants_key c.args.wanted.now in
    let all = flat_map (last_of_entry wants) c.args.by_key.now in
    then_ok c.numbered.result _ _ c.numbered.ensures (λ found same.
    subst (λ l. IsPermutation all l) (sym (same ∙ numbered_alike wants c.args.by_key.now)) (IsPermutation-refl all))
