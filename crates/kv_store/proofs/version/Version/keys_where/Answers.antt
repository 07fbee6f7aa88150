use Rattle.std.proofs.Common.{ap, ◌∙◌}
use Rattle.std.specs.Prelude.{map}
use Rattle.kv_model.specs.Acts.{Write, is_put}
use Rattle.kv_model.specs.Retained.{latest}
use Rattle.kv_model.proofs.Members.{filter-filter}
use Rattle.kv_store.proofs.Latest.{read_through}
use Rattle.kv_store.proofs.version.Version.keys_where.Goals as goal

pub returns-clause-ok : goal.returns-clause-ok
returns-clause-ok g c = λ acts stands.
    c.in_ok-keys_in.ensures
    ∙ ap (map (λ f. f.1.now.last.key)) c.deref.ensures.value
    ∙ read_through (λ w. w.key) c.in_ok-puts.puts.items
    ∙ ap (map (λ (w : Write). w.key)) (c.in_ok-puts.ensures acts stands ∙ filter-filter (λ w. is_put w.op) (λ w. g.W.Wanted.wants_key c.args.wanted.now w.key) (latest acts))
