use Rattle.std.proofs.Common.{◌++◌, List, sym, subst, refl}
use Rattle.kv_model.specs.Acts.{Act}
use Rattle.kv_publish.specs.Steps.{acts_from}
use Rattle.kv_store.specs.Standing.{StandsFor}
use Rattle.kv_bucket.specs.Histories.{IsPublishedHistory}
use Rattle.kv_bucket.specs.inside.Beginnings.{HasBeginnings}
use Rattle.kv_bucket.proofs.Batching.{goes_on_by_all}
use Rattle.kv_bucket.proofs.publisher.Publisher.publish_all.Goals as goal

pub invariant_of-self : goal.invariant_of-self
invariant_of-self g c =
    let opening = g.N.LiveName.opening in
    let was : List Act = c.self.inside.journal in
    let more : List Act = acts_from c.args.revision c.args.requests.now in
    let stands : StandsFor (was ++ more) c.args.version = subst (λ (a : List Act). StandsFor (a ++ more) c.args.version) (sym c.self.view_is) c.requires.stands in
    let each : HasBeginnings opening.config was more = subst (λ (a : List Act). HasBeginnings opening.config a more) (sym c.self.view_is) c.requires.each in
    let all : IsPublishedHistory opening (was ++ more) = goes_on_by_all opening was more c.args.version c.self.invariant.4 c.requires.config stands each in
    rw c.put.ensures (refl, c.show_all-shown.ensures.shown, c.self.invariant.2, c.self.invariant.3, subst (IsPublishedHistory opening) (sym c.show_all-shown.ensures.added) all)

pub returns-clause-history : goal.returns-clause-history
returns-clause-history g c =
    let opening = g.N.LiveName.opening in
    let was : List Act = c.self.inside.journal in
    let more : List Act = acts_from c.args.revision c.args.requests.now in
    let stands : StandsFor (was ++ more) c.args.version = subst (λ (a : List Act). StandsFor (a ++ more) c.args.version) (sym c.self.view_is) c.requires.stands in
    let each : HasBeginnings opening.config was more = subst (λ (a : List Act). HasBeginnings opening.config a more) (sym c.self.view_is) c.requires.each in
    subst (IsPublishedHistory opening) (sym c.show_all-shown.ensures.added) (goes_on_by_all opening was more c.args.version c.self.invariant.4 c.requires.config stands each)
