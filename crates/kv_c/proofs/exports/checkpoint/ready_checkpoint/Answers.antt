use Rattle.std.proofs.Common.{◌≡◌, [], false, rules, ◌∙◌, ap, sym, subst, refl}
use Rattle.kv_durable.specs.Bases.{opening, replaced_by}
use Rattle.kv_durable.specs.Journals.{Keeps}
use Rattle.kv_durable.specs.declared.journal.Journal.{Journal}
use Rattle.kv_store.specs.Standing.{StandsFor}
use Rattle.kv_store.specs.Stored.{Stored}
use Rattle.kv_c.specs.Lending.{lends, never_fails}
use Rattle.kv_c.specs.declared.outbox.Outbox.{Outbox}
use Rattle.kv_c.proofs.Checkpointed.{is_replacement}
use Rattle.kv_c.proofs.exports.checkpoint.ready_checkpoint.Goals as goal

pub returns-in-Ok-clause-ok : goal.returns-in-Ok-clause-ok
returns-in-Ok-clause-ok c =
    let r = c.in_ok-journal in
    let v = c.version.ensures.value in
    let own = c.deref.result.now in
    let old = c.args.filed.now.journal.value in
    let j : own ≡ old = search rules in
    is_replacement c.args.seed c.args.bucket.now c.args.filed.now (record { journal = c.in-Ok.journal; number = c.args.filed.now.number; has_failed = false }) r.journal r.bytes.items c.lent.result
    c.in-Ok.ensures.ok refl refl r.ensures.seed (r.ensures.sync ∙ ap (λ (x : Journal Outbox). x.appender.sync) j) c.lent.ensures.0 c.lent.ensures.1
    (λ acts stands same.
    r.ensures.bytes acts (subst (λ (s : Stored). StandsFor acts s) (sym v) stands) ((ap (λ (s : Stored). s.config) v ∙ same) ∙ ap (λ (x : Journal Outbox). x.config.config) (sym j))
    ∙ ap (λ (x : Journal Outbox). opening c.args.seed (replaced_by x.config.config acts)) j)
    (λ acts stands same usable there.
    subst (λ (x : Journal Outbox). Keeps lends never_fails (replaced_by x.config.config acts) [] [] r.journal) j
    (r.ensures.keeps acts (subst (λ (s : Stored). StandsFor acts s) (sym v) stands) ((ap (λ (s : Stored). s.config) v ∙ same) ∙ ap (λ (x : Journal Outbox). x.config.config) (sym j)) usable there))
