use Rattle.std.proofs.Common.{sym, ap, ◌∙◌}
use Rattle.std.specs.Arc.{arc_value}
use Rattle.std.specs.Option.{option_map}
use Rattle.kv_store.specs.Stored.{kept_at, last_at}
use Rattle.kv_store.proofs.Lookups.{by_bytes}
use Rattle.kv_store.proofs.version.Version.of_key.Goals as goal

pub returns-clause-kept : goal.returns-clause-kept
returns-clause-kept c =
    ap (option_map (λ v. v.revisions)) (rw c.deref.ensures at c.get.ensures)
    ∙ sym (by_bytes (λ v. v.revisions) c.args.key.now (arc_value c.self.inside.inner).by_key)
    ∙ ap (kept_at c.args.key.now) c.self.view_is

pub returns-clause-last : goal.returns-clause-last
returns-clause-last c =
    ap (option_map (λ v. v.last)) (rw c.deref.ensures at c.get.ensures)
    ∙ sym (by_bytes (λ v. v.last) c.args.key.now (arc_value c.self.inside.inner).by_key)
    ∙ ap (last_at c.args.key.now) c.self.view_is
