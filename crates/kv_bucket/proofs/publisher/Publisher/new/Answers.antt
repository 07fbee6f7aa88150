use Rattle.std.proofs.Common.{◌≡◌, sym, subst, refl, ◌∙◌}
use Rattle.kv_bucket.specs.Histories.{IsPublishedHistory}
use Rattle.kv_bucket.specs.Keeping.{Shows}
use Rattle.kv_bucket.proofs.Histories.{begins}
use Rattle.kv_bucket.proofs.publisher.Publisher.new.Goals as goal

pub beginning-requires-clause-book : goal.beginning-requires-clause-book
beginning-requires-clause-book g c = c.requires.book

pub first_publication-requires : goal.first_publication-requires
first_publication-requires g c =
    let opening = g.N.LiveName.opening in
    subst (λ acts. Shows opening.config acts c.args.version.now) (sym c.in_ok-notifier.ensures.2) c.requires.stands

pub invariant_of-result : goal.invariant_of-result
invariant_of-result g c =
    let opening = g.N.LiveName.opening in
    let made = c.in_ok-notifier.ensures in
    let acts : c.in_ok-notifier.journal ≡ opening.book.began = made.2 in
    (refl, c.in_ok-buffer.ensures ∙ c.in_ok-publication.ensures.1, made.0, made.1, subst (IsPublishedHistory opening) (sym acts) (begins opening c.args.version.now c.requires.stands.0 c.requires.stands.1))

pub returns-clause-history : goal.returns-clause-history
returns-clause-history g c =
    let opening = g.N.LiveName.opening in
    subst (IsPublishedHistory opening) (sym c.in_ok-notifier.ensures.2) (begins opening c.args.version.now c.requires.stands.0 c.requires.stands.1)
