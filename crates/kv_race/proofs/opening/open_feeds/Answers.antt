use Rattle.std.proofs.Common.{◌+◌, List, take, sym, subst, ap, ◌∙◌}
use Rattle.std.specs.List.{AllZip}
use Rattle.kv_bucket.specs.FeedState.{FeedState}
use Rattle.kv_race.specs.Openings.{IsFresh}
use Rattle.kv_race.proofs.Zips.{zip_more}
use Rattle.kv_race.proofs.opening.open_feeds.Goals as goal

pub loop-n-preserved : goal.loop-n-preserved
loop-n-preserved g c =
    let config = g.N.LiveName.opening.config in
    let watches = c.args.watches.now in
    let n = c.loop-n.n in
    let feed = c.in_ok-open_feed.field-0 in
    let fresh = c.in_ok-open_feed.ensures.ok in
    let same = c.index-watches-n.is in
    subst (λ (feeds : List FeedState). AllZip (IsFresh config) (take (n + 1) watches) feeds) (sym c.in_ok-push.ensures.items)
    (zip_more (IsFresh config) watches c.loop-n.feeds.items n c.index-watches-n.result feed c.loop-n-test.true c.loop-n.invariant
    record {
      same_config = fresh.same_config;
      began = fresh.began;
      filters = fresh.filters ∙ ap (λ w. w.0) same;
      options = fresh.options ∙ ap (λ w. w.1) same;
      handed = fresh.handed;
    })
