use Rattle.std.proofs.Common.{◌≡◌, ◌≤◌, length, sym, subst, arith}
use Rattle.kv_model.specs.Acts.{writes_of}
use Rattle.kv_c.specs.contracts.feed.Feed.{the_view}
use Rattle.kv_c.specs.Feeding.{Fed, HasHanded, lags}
use Rattle.kv_c.proofs.Feeding.{lags_far, lags_near}
use Rattle.kv_c.proofs.feed.Feed.lags_behind.Goals as goal

pub returns-then-revision-floor : goal.returns-then-revision-floor
returns-then-revision-floor c = λ began acts n at.
    let here = subst (λ (f : Fed). HasHanded began acts n f) (sym c.self.view_is) at in
    let last = c.revision.ensures.acts acts here.place.now_stands in
    lags_far c.args.floor n began acts c.args.self.now (omega (arith, last, c.if-revision-floor.true))

pub returns : goal.returns
returns c = λ began acts n at.
    let here = subst (λ (f : Fed). HasHanded began acts n f) (sym c.self.view_is) at in
    let last = c.revision.ensures.acts acts here.place.now_stands in
    let near : c.args.floor ≤ length (writes_of acts) = omega (arith, last, c.if-revision-floor.false) in
    subst (λ (f : Fed). c.behind.result ≡ lags c.args.floor began acts n f) c.self.view_is
    (lags_near c.args.floor n began acts (the_view c.self.inside) c.behind.result near (c.behind.ensures n began acts here))
