use Rattle.std.proofs.Common.{◌∙◌, ap, sym, rules}
use Rattle.kv_c.specs.contracts.feed.Feed.{the_view}
use Rattle.kv_c.specs.Feeding.{lags}
use Rattle.kv_c.proofs.Feeding.{refreshed}
use Rattle.kv_c.proofs.feed.Feed.refresh.Goals as goal

pub returns-clause-ok : goal.returns-clause-ok
returns-clause-ok c = refreshed c.args.version.now c.args.self.now (the_view (record { present = c.in_ok-self-inside.field-0; watch = c.self.inside.watch })) (search rules)
    (λ began acts n at. ap (λ f. lags f began acts n c.args.self.now) (sym c.floor-floor.ensures.value) ∙ sym (c.lags_behind.ensures began acts n at) ∙ c.if-lags_behind.false)
