use Rattle.std.proofs.Common.{◌≡◌, ◌∙◌, false, List, refl, sym, ap, subst}
use Rattle.kv_model.specs.Acts.{Act, floor_of}
use Rattle.kv_bucket.specs.inside.Fed.{IsFed, acts_on, feed_state_of}
use Rattle.kv_publish.specs.Publications.{Published}
use Rattle.kv_bucket.specs.FeedState.{FeedState, IsRefreshed, lags}
use Rattle.kv_bucket.proofs.Feeds.{fed_later, fed_seen, refreshed}
use Rattle.kv_bucket.proofs.feed.Feed.refresh_keeping.Goals as goal

pub invariant_of-self-2 : goal.invariant_of-self-2
invariant_of-self-2 g c =
    let was = c.self.inside in
    let fed = c.self.invariant in
    let config = g.N.LiveName.opening.config in
    let next = c.in_ok-publication.publication in
    let ok = c.in_ok-publication.ensures.ok in
    let feed = feed_state_of was.reader was.began.value.acts was.current was.watch.cursor in
    let ahead : lags next.version.floor feed ≡ false =
    ap (λ f. lags f feed) c.in_ok-publication.ensures.stands.floor ∙ sym (c.in_ok-publication.ensures.ahead feed (fed.of ∙ sym fed.same_config) refl refl refl fed.reach) in
    subst (λ (publication : Published). IsFed config c.publication_ahead.new.self was.began.value.acts publication was.watch) (sym c.replace-left.ensures.after)
    (fed_later config was.reader c.publication_ahead.new.self was.began.value.acts was.current next was.watch fed (c.publication_ahead.ensures.later, c.publication_ahead.ensures.told, c.publication_ahead.ensures.config.0) ok.0 ok.1.1 c.in_ok-publication.ensures.stands ahead)

pub returns-clause-ok : goal.returns-clause-ok
returns-clause-ok g c =
    let was = c.self.inside in
    let config = g.N.LiveName.opening.config in
    let next = c.in_ok-publication.publication in
    let ok = c.in_ok-publication.ensures.ok in
    let step = refreshed was.reader c.publication_ahead.new.self was.began.value.acts was.current next was.watch.cursor (c.publication_ahead.ensures.later, c.publication_ahead.ensures.told, c.publication_ahead.ensures.config.0) c.self.invariant.seen ok.0 ok.2 in
    subst (λ (publication : Published). IsRefreshed c.args.self.now (feed_state_of c.publication_ahead.new.self was.began.value.acts publication was.watch.cursor)) (sym c.replace-left.ensures.after)
    (subst (λ (f : FeedState). IsRefreshed f (feed_state_of c.publication_ahead.new.self was.began.value.acts next was.watch.cursor)) c.self.view_is step)

pub returns-clause-ahead : goal.returns-clause-ahead
returns-clause-ahead g c =
    let was = c.self.inside in
    let fed = c.self.invariant in
    let config = g.N.LiveName.opening.config in
    let next = c.in_ok-publication.publication in
    let ok = c.in_ok-publication.ensures.ok in
    let feed = feed_state_of was.reader was.began.value.acts was.current was.watch.cursor in
    let ahead : lags (floor_of c.publication_ahead.new.self.seen) feed ≡ false = sym (c.in_ok-publication.ensures.ahead feed (fed.of ∙ sym fed.same_config) refl refl refl fed.reach) in
    subst (λ (publication : Published). lags (floor_of (acts_on publication)) c.args.self.now ≡ false) (sym c.replace-left.ensures.after)
    (subst (λ (f : FeedState). lags (floor_of (acts_on next)) f ≡ false) c.self.view_is (ap (λ (acts : List Act). lags (floor_of acts) feed) ok.0 ∙ ahead))

pub invariant_of-self : goal.invariant_of-self
invariant_of-self g c =
    let was = c.self.inside in
    fed_seen g.N.LiveName.opening.config was.reader c.publication_ahead.new.self was.began.value.acts was.current was.watch c.self.invariant (c.publication_ahead.ensures.later, c.publication_ahead.ensures.told, c.publication_ahead.ensures.config.0)
