use Rattle.std.proofs.Common.{length, subst, ap, ◌∙◌}
use Rattle.std.specs.Ordering.{nat_cmp}
use Rattle.kv_model.specs.Acts.{writes_of}
use Rattle.kv_model.specs.Compaction.{is_stored}
use Rattle.kv_model.proofs.Numbered.{counts_from_lawful}
use Rattle.kv_trie.specs.Form.{Ascends, order}
use Rattle.kv_store.specs.Places.{place_of_revision}
use Rattle.kv_store.specs.Stored.{Stored}
use Rattle.kv_store.proofs.Counting.{length_found}
use Rattle.kv_store.proofs.version.Version.stored.Goals as goal

pub returns-clause-acts : goal.returns-clause-acts
returns-clause-acts c = λ acts s.
    let version = c.args.self.now in
    let ascends = subst (λ (v : Stored). Ascends (order nat_cmp place_of_revision 7) v.by_revision) c.self.view_is (rw c.deref.ensures at c.len.ensures.ordered) in
    (rw c.deref.ensures at c.len.ensures.count)
    ∙ ap (λ (v : Stored). length v.by_revision) c.self.view_is
    ∙ length_found (is_stored version.config.history acts) (writes_of acts) version.by_revision (counts_from_lawful version.config acts s.lawful) ascends s.written
