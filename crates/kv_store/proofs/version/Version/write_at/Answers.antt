use Rattle.std.proofs.Common.{◌≡◌, sym, ap, ◌∙◌}
use Rattle.std.specs.Arc.{arc_value}
use Rattle.std.specs.Option.{option_copied}
use Rattle.kv_store.specs.Stored.{write_at}
use Rattle.kv_store.proofs.Lookups.{none_above, write_by_number}
use Rattle.kv_store.proofs.version.Version.write_at.Goals as goal

pub returns-then-revision-deref-clause-value : goal.returns-then-revision-deref-clause-value
returns-then-revision-deref-clause-value c =
    rw (← c.self.view_is) (sym (none_above c.args.revision (arc_value c.self.inside.inner).last (arc_value c.self.inside.inner).by_revision c.self.invariant.revisions (rw c.deref.ensures at c.if-revision-deref.true)))

pub returns-then-revision-deref-clause-acts : goal.returns-then-revision-deref-clause-acts
returns-then-revision-deref-clause-acts c = λ acts s.
    returns-then-revision-deref-clause-value c ∙ s.written c.args.revision

pub returns-clause-acts : goal.returns-clause-acts
returns-clause-acts c = λ acts s.
    let value : option_copied c.get.result ≡ write_at c.args.revision c.args.self.now =
    (rw (c.new.ensures, c.deref-2.ensures) at c.get.ensures) ∙ sym (write_by_number c.args.revision (arc_value c.self.inside.inner).by_revision) ∙ ap (write_at c.args.revision) c.self.view_is in
    value ∙ s.written c.args.revision
