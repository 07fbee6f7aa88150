use Rattle.std.proofs.Common.{ℕ, ◌≤◌, List, length, sym, subst, ap, ◌∙◌, arith}
use Rattle.kv_model.specs.Acts.{writes_of}
use Rattle.kv_model.specs.Configuration.{Configuration}
use Rattle.kv_model.specs.Given.{is_behind}
use Rattle.kv_model.specs.declared.options.Options.{Options}
use Rattle.kv_store.specs.Stored.{Stored}
use Rattle.kv_watch.specs.Watching.{HasHanded}
use Rattle.kv_bucket.proofs.Feeds.{lags_far, lags_near}
use Rattle.kv_bucket.proofs.progress.lags_behind.Goals as goal

pub returns-then-revision-floor : goal.returns-then-revision-floor
returns-then-revision-floor c = λ feed config acts filters options reach.
    let at = subst (λ (v : Stored). HasHanded feed.began feed.acts feed.handed v c.args.watch.now) (sym c.version-version.ensures.value) reach in
    let last = c.revision.ensures.acts feed.acts at.place.now_stands in
    lags_far c.args.floor feed (omega (arith, last, c.if-revision-floor.true))

pub returns : goal.returns
returns c = λ feed config acts filters options reach.
    let at = subst (λ (v : Stored). HasHanded feed.began feed.acts feed.handed v c.args.watch.now) (sym c.version-version.ensures.value) reach in
    let last = c.revision.ensures.acts feed.acts at.place.now_stands in
    let near : c.args.floor ≤ length (writes_of feed.acts) = omega (arith, last, c.if-revision-floor.false) in
    let tells = c.behind.ensures feed.handed feed.began feed.acts at in
    lags_near c.args.floor feed c.behind.result near
    (tells
    ∙ ap (λ (k : Configuration). is_behind c.args.floor feed.handed k.history feed.began feed.acts c.args.watch.now.cursor.filters c.args.watch.now.cursor.options) (sym config)
    ∙ ap (λ (fs : List (List ℕ)). is_behind c.args.floor feed.handed feed.reader.config.history feed.began feed.acts fs c.args.watch.now.cursor.options) (sym filters)
    ∙ ap (λ (o : Options). is_behind c.args.floor feed.handed feed.reader.config.history feed.began feed.acts feed.filters o) (sym options))
