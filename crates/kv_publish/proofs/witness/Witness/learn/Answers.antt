use Rattle.std.proofs.Common.{◌≡◌, ap, sym, ◌∙◌, subst, List}
use Rattle.kv_model.specs.Acts.{IsPrefix}
use Rattle.kv_publish.specs.declared.entry.Entry.{Entry}
use Rattle.kv_publish.specs.Openings.{HistoryName}
use Rattle.kv_publish.specs.Beginnings.{first_in}
use Rattle.kv_publish.specs.Rules.{history_from}
use Rattle.kv_publish.specs.Witnesses.{Witnessed}
use Rattle.kv_publish.proofs.Histories.{history_prefix}
use Rattle.kv_publish.proofs.witness.Witness.learn.Goals as goal

pub learn-requires : goal.learn-requires
learn-requires c =
    ap (λ (w : Witnessed). w.book.written_in) c.other.view_is
    ∙ (ap (λ (b : HistoryName). b.written_in) c.requires ∙ sym (ap (λ (w : Witnessed). w.book.written_in) c.self.view_is))

pub returns-clause-this : goal.returns-clause-this
returns-clause-this c =
    let log = c.learn.new.self.log in
    let first = first_in c.self.inside.title.log in
    subst (λ (l : List Entry). IsPrefix l (history_from first log)) (ap (λ (w : Witnessed). w.log) c.self.view_is) (history_prefix first c.self.inside.seen.log log c.learn.ensures.2)

pub returns-clause-that : goal.returns-clause-that
returns-clause-that c =
    let log = c.learn.new.self.log in
    let theirs = c.other.inside.seen.log in
    let first = first_in c.self.inside.title.log in
    let same : first_in c.other.inside.title.log ≡ first =
    ap (λ (w : Witnessed). w.book.first) c.other.view_is
    ∙ (ap (λ (b : HistoryName). b.first) c.requires ∙ sym (ap (λ (w : Witnessed). w.book.first) c.self.view_is)) in
    subst (λ (l : List Entry). IsPrefix l (history_from first log)) (ap (λ k. history_from k theirs) (sym same) ∙ ap (λ (w : Witnessed). w.log) c.other.view_is)
    (history_prefix first theirs log c.learn.ensures.3)
