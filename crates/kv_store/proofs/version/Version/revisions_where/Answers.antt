use Rattle.std.proofs.lemmas.List.Sorted.{IsNonDecreasingBy-from_sort}
use Rattle.kv_keys.specs.Places.{fnv32_of}
use Rattle.kv_store.proofs.Naming.{gathered_are_initial}
use Rattle.kv_model.proofs.Numbered.{counts_from_lawful}
use Rattle.kv_store.proofs.Reading.{history_some}
use Rattle.kv_store.proofs.version.Version.revisions_where.Goals as goal

pub returns-clause-ok : goal.returns-clause-ok
returns-clause-ok g c = λ acts stands.
    let version = c.args.self.now in
    let wants = g.W.Wanted.wants_key c.args.wanted.now in
    let found = c.in_ok-selected_revisions_of in
    gathered_are_initial version.config.history acts (history_some version.config stands.legal) (counts_from_lawful version.config acts stands.lawful) wants c.args.start fnv32_of c.by_key.result.now
    (c.by_key.ensures.acts acts stands) c.selected_revisions_of.ensures.keys found.field-0.items found.ensures.same (IsNonDecreasingBy-from_sort (λ n. n) found.field-0.items found.ensures.sorted)
