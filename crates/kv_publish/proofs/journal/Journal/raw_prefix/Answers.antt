use Rattle.std.proofs.Common.{◌≡◌, ◌++◌, List, subst, sym, ap, ◌∙◌}
use Rattle.kv_model.specs.Acts.{Act}
use Rattle.kv_publish.specs.Openings.{HistoryName}
use Rattle.kv_publish.specs.Rules.{IsWhole, acts_in}
use Rattle.kv_publish.proofs.journal.Journal.raw_prefix.Goals as goal

pub new-requires-clause-acts : goal.new-requires-clause-acts
new-requires-clause-acts g c =
    let began : c.witness.result.book.began ≡ g.N.LiveName.opening.book.began = ap (λ (b : HistoryName). b.began) c.witness.ensures.1 in
    rw (began, c.witness.ensures.0) c.len.ensures

pub new-requires-clause-whole : goal.new-requires-clause-whole
new-requires-clause-whole g c = subst IsWhole (sym c.witness.ensures.0) c.self.invariant

pub returns : goal.returns
returns g c =
    let began : c.witness.result.book.began ≡ g.N.LiveName.opening.book.began = ap (λ (b : HistoryName). b.began) c.witness.ensures.1 in (
      c.new.ensures.0 ∙ (ap (λ (a : List Act). a ++ acts_in c.witness.result.log) began ∙ (ap (λ log. g.N.LiveName.opening.book.began ++ acts_in log) c.witness.ensures.0 ∙ c.self.view_is)),
      c.new.ensures.1 ∙ c.witness.ensures.1,
    )
