use Rattle.std.proofs.Common.{ap, ◌∙◌}
use Rattle.std.specs.Prelude.{map}
use Rattle.kv_model.specs.Retained.{revisions}
use Rattle.kv_store.proofs.Latest.{read_through}
use Rattle.kv_store.proofs.version.Version.puts_where.Goals as goal

pub returns-clause-ok : goal.returns-clause-ok
returns-clause-ok g c = λ acts stands.
    c.in_ok-revisions_in.ensures
    ∙ ap (map (λ f. f.1.now.last.revision)) c.deref.ensures.value
    ∙ read_through (λ w. w.revision) c.in_ok-puts.puts.items
    ∙ ap revisions (c.in_ok-puts.ensures acts stands)
