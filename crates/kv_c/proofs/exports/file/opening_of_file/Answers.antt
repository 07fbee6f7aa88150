use Rattle.std.proofs.Common.{ap, sym, ◌∙◌}
use Rattle.kv_c.proofs.Reopened.{opened_so}
use Rattle.kv_c.specs.declared.filed.Filed.{Filed}
use Rattle.kv_c.proofs.exports.file.opening_of_file.Goals as goal

pub returns-in-Ok-clause-ok : goal.returns-in-Ok-clause-ok
returns-in-Ok-clause-ok c =
    let w = c.opened.result in
    let parts = c.opened.ensures.parts in
    let first = c.in_ok-first in
    opened_so c.args.config.now _ c.args.seed c.args.number c.args.bytes.now first.first.items c.in_ok-opened.opened w c.in_ok-opened.ensures.ok first.ensures.new first.ensures.old
    (parts.0 ∙ c.new-in-Ok.ensures ∙ c.into_parts-bucket.ensures.0) (ap (λ (f : Filed). f.journal.value) parts.2 ∙ c.in-Ok.ensures.ok ∙ c.into_parts-bucket.ensures.1)
    (ap (λ (f : Filed). f.number) parts.2) (ap (λ (f : Filed). f.has_failed) parts.2) parts.3 parts.1 parts.5 parts.4
    (λ none. c.opened.ensures.old none ∙ sym (ap (λ (f : Filed). f.journal.value.appender.offset) parts.2)) c.opened.ensures.new
