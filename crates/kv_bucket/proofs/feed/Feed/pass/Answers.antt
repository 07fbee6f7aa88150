use Rattle.std.proofs.Common.{◌≡◌, None, List, take, subst}
use Rattle.kv_model.specs.Acts.{Act, Write}
use Rattle.kv_bucket.specs.inside.Fed.{feed_state_of}
use Rattle.kv_bucket.specs.FeedState.{FeedState, given_by, next_of, after_item}
use Rattle.kv_bucket.specs.Owed.{Owes, HasOnce}
use Rattle.kv_bucket.proofs.Feeds.{lawful_fed, moved, shows}
use Rattle.kv_bucket.proofs.Once.{all_has_once}
use Rattle.kv_bucket.proofs.feed.Feed.pass.Goals as goal

pub returns-clause-once : goal.returns-clause-once
returns-clause-once g c =
    let was = c.self.inside in
    let config = g.N.LiveName.opening.config in
    let began = was.began.value.acts in
    let fed = c.self.invariant in
    let feed = feed_state_of was.reader began was.current was.watch.cursor in
    subst (λ (f : FeedState). next_of f ≡ None → (told : List Act) → (w : Write) → Owes f told w → HasOnce f w (take f.handed (given_by f))) c.self.view_is
    (λ none told w owes. all_has_once was.reader.config feed told w (lawful_fed config was.reader began was.current was.watch fed) fed.reach.place.prefix ((shows config was.reader began was.current was.watch fed).1.0 none) owes)

pub invariant_of-self : goal.invariant_of-self
invariant_of-self g c =
    let was = c.self.inside in
    (moved g.N.LiveName.opening.config was.reader was.began.value.acts was.current was.watch c.pass.new.self c.version.result.now c.self.invariant c.version.ensures.value c.pass.ensures.moves).0

pub returns-clause-after : goal.returns-clause-after
returns-clause-after g c =
    let was = c.self.inside in
    let config = g.N.LiveName.opening.config in
    let all = moved config was.reader was.began.value.acts was.current was.watch c.pass.new.self c.version.result.now c.self.invariant c.version.ensures.value c.pass.ensures.moves in
    subst (λ (f : FeedState). feed_state_of was.reader was.began.value.acts was.current c.pass.new.self.cursor ≡ after_item f (next_of f)) c.self.view_is all.1
