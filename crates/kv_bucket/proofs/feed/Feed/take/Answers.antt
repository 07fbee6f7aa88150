use Rattle.std.proofs.Common.{◌≡◌, None, List, length, take, refl, subst, sym, ap, ◌∙◌}
use Rattle.kv_model.specs.Acts.{Act, Write}
use Rattle.kv_store.specs.Stored.{Stored}
use Rattle.kv_watch.specs.Taking.{item_taken}
use Rattle.kv_watch.specs.Watching.{HasHanded}
use Rattle.kv_bucket.specs.inside.Fed.{acts_on, feed_state_of}
use Rattle.kv_bucket.specs.FeedState.{FeedState, given_by, next_of, after_item}
use Rattle.kv_bucket.specs.Owed.{Owes, HasOnce}
use Rattle.kv_bucket.proofs.Feeds.{lawful_fed, moved, shows}
use Rattle.kv_bucket.proofs.Once.{all_has_once}
use Rattle.kv_bucket.proofs.feed.Feed.take.Goals as goal

pub returns : goal.returns
returns g c =
    let was = c.self.inside in
    let config = g.N.LiveName.opening.config in
    let began = was.began.value.acts in
    let acts = acts_on was.current in
    let item = item_taken c.take.result in
    let fed = c.self.invariant in
    let at : HasHanded began acts was.watch.cursor.handed c.version.result.now was.watch = subst (λ (v : Stored). HasHanded began acts was.watch.cursor.handed v was.watch) (sym c.version.ensures.value) fed.reach in
    let shown = shows config was.reader began was.current was.watch fed in
    let value : item ≡ next_of (feed_state_of was.reader began was.current was.watch.cursor) = c.take.ensures.next was.watch.cursor.handed began acts at ∙ shown.0 in
    let left = c.take.follows.lender-at-none in
    let all = moved config was.reader began was.current was.watch left c.version.result.now fed c.version.ensures.value c.take.follows.holds-at-none.0 in
    let journal = feed_state_of was.reader began was.current left.cursor in (
      (refl, λ _. tt, subst (λ (f : FeedState). journal ≡ after_item f item) c.self.view_is (all.1 ∙ sym (ap (after_item (feed_state_of was.reader began was.current was.watch.cursor)) value))),
      record {
        after = tt;
        once = subst (λ (f : FeedState). item ≡ None → (told : List Act) → (w : Write) → Owes f told w → HasOnce f w (take f.handed (given_by f))) c.self.view_is
            (λ none told w owes. all_has_once was.reader.config (feed_state_of was.reader began was.current was.watch.cursor) told w (lawful_fed config was.reader began was.current was.watch fed) fed.reach.place.prefix (shown.1.0 (sym value ∙ none)) owes);
        value = subst (λ (f : FeedState). item ≡ next_of f) c.self.view_is value;
        end = subst (λ (f : FeedState). (item ≡ None → f.handed ≡ length (given_by f)) × (f.handed ≡ length (given_by f) → item ≡ None)) c.self.view_is
            (λ none. shown.1.0 (sym value ∙ none), λ end. value ∙ shown.1.1 end);
      },
    )
