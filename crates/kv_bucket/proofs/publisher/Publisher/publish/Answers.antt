use Rattle.std.proofs.Common.{◌++◌, ◌∷◌, [], List, sym, subst, refl}
use Rattle.kv_model.specs.Acts.{Act}
use Rattle.kv_store.specs.Standing.{StandsFor}
use Rattle.kv_bucket.specs.Histories.{IsPublishedHistory}
use Rattle.kv_bucket.proofs.Histories.{goes_on_by}
use Rattle.kv_bucket.proofs.publisher.Publisher.publish.Goals as goal

pub invariant_of-self : goal.invariant_of-self
invariant_of-self g c =
    let opening = g.N.LiveName.opening in
    let was : List Act = c.self.inside.journal in
    let stands : StandsFor (was ++ c.args.ghost_act ∷ []) c.args.version = subst (λ (a : List Act). StandsFor (a ++ c.args.ghost_act ∷ []) c.args.version) (sym c.self.view_is) c.requires.stands in
    let more : IsPublishedHistory opening (was ++ c.args.ghost_act ∷ []) = goes_on_by opening was c.args.ghost_act c.args.version c.self.invariant.4 c.requires.config stands in
    rw c.put.ensures (refl, c.show-buffer.ensures.shown, c.self.invariant.2, c.self.invariant.3, subst (IsPublishedHistory opening) (sym c.show-buffer.ensures.added) more)

pub returns-clause-history : goal.returns-clause-history
returns-clause-history g c =
    let opening = g.N.LiveName.opening in
    let was : List Act = c.self.inside.journal in
    let stands : StandsFor (was ++ c.args.ghost_act ∷ []) c.args.version = subst (λ (a : List Act). StandsFor (a ++ c.args.ghost_act ∷ []) c.args.version) (sym c.self.view_is) c.requires.stands in
    subst (IsPublishedHistory opening) (sym c.show-buffer.ensures.added) (goes_on_by opening was c.args.ghost_act c.args.version c.self.invariant.4 c.requires.config stands)
