use Rattle.std.proofs.Common.{◌≡◌, ℕ, ◌<◌, ◌^◌, [], length, rules, ap, subst, ◌∙◌}
use Rattle.kv_model.specs.Acceptance.{IsLawful}
use Rattle.kv_durable.specs.Bases.{opening, replaced_by}
use Rattle.kv_durable.proofs.Replacing.{begins}
use Rattle.kv_durable.proofs.journal.Journal.checkpointed.Goals as goal

pub returns-clause-bytes : goal.returns-clause-bytes
returns-clause-bytes g c = λ acts stands same.
    c.in_ok-bytes.ensures.items acts stands same ∙ ap (λ (n : ℕ). opening n (replaced_by c.args.self.now.config.config acts)) c.new-other.ensures

pub returns-clause-keeps : goal.returns-clause-keeps
returns-clause-keeps g c = λ acts stands same usable there.
    let base = replaced_by c.args.self.now.config.config acts in
    let fits : c.new-other.result.seed < 2 ^ 64 = search rules in
    let long : c.len-offset.result ≡ length c.in_ok-bytes.bytes.items = search rules in
    begins g.F.JournalFile.has g.F.JournalFile.usable base c.args.file c.new-other.result.seed c.len-offset.result c.in_ok-bytes.bytes.items c.new-journal.result (c.in_ok-bytes.ensures.items acts stands same) long there
    (λ all at. c.new-journal.ensures.keeps base [] fits c.in_ok-config.ensures.ok (c.in_ok-bytes.ensures.payloads acts stands same) (subst (λ v. IsLawful v acts) same stands.lawful) (tt, tt) usable all at)
