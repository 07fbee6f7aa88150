use Rattle.std.proofs.Common.{◌≡◌, ap, sym, ◌∙◌}
use Rattle.kv_publish.specs.Openings.{HistoryName}
use Rattle.kv_publish.specs.Prefixes.{JournalPrefix}
use Rattle.kv_publish.proofs.Former.{seen_in}
use Rattle.kv_publish.proofs.prefix.RawPrefix.with.Goals as goal

pub returns-clause-this : goal.returns-clause-this
returns-clause-this c =
    let mine = c.self.inside in
    let same : mine.witness.book.began ≡ c.learn.new.self.book.began =
    ap (λ (p : JournalPrefix). p.book.began) c.self.view_is ∙ (ap (λ (b : HistoryName). b.began) (sym c.requires) ∙ ap (λ (b : HistoryName). b.began) (sym (c.learn.ensures.book ∙ ap (λ w. w.book) c.again-both.ensures))) in
    rw (← c.self.view_is, ← same) (seen_in mine.witness.book.began mine.witness.log c.learn.new.self.log mine.acts c.learn.ensures.that)
