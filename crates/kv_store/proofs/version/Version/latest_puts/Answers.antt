use Rattle.std.proofs.Common.{ap, ◌∙◌}
use Rattle.std.specs.Prelude.{filter, map}
use Rattle.kv_keys.specs.Places.{fnv32_of}
use Rattle.kv_model.specs.Acts.{is_put}
use Rattle.kv_store.proofs.Latest.{lasts_are_latest, puts_among}
use Rattle.kv_store.proofs.version.Version.latest_puts.Goals as goal

pub returns : goal.returns
returns g c = λ acts stands.
    let found = c.in_ok-found.found.items in
    ap (map (λ f. f.1.now.last)) c.keep_puts.ensures
    ∙ puts_among (λ w. is_put w.op) found
    ∙ ap (filter (λ w. is_put w.op)) (lasts_are_latest acts c.args.self.now stands (g.W.Wanted.wants_key c.args.wanted.now) fnv32_of c.by_key.result.now (c.by_key.ensures.acts acts stands) (c.by_key.ensures.last acts stands) c.last_sorted.ensures.keys found c.in_ok-found.ensures.same c.in_ok-found.ensures.sorted)
