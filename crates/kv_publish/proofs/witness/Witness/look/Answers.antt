use Rattle.std.proofs.Common.{ap, sym, ◌∙◌, subst, List}
use Rattle.logbook.specs.Pages.{nib, may_write}
use Rattle.kv_model.specs.Acts.{IsPrefix}
use Rattle.kv_publish.specs.declared.entry.Entry.{Entry}
use Rattle.kv_publish.specs.Beginnings.{first_in}
use Rattle.kv_publish.specs.Rules.{history_from, right_behind}
use Rattle.kv_publish.specs.Witnesses.{Witnessed}
use Rattle.kv_publish.proofs.Histories.{history_prefix}
use Rattle.kv_publish.proofs.Stepping.{looks_moves}
use Rattle.kv_publish.proofs.witness.Witness.look.Goals as goal

pub compare_exchange-requires : goal.compare_exchange-requires
compare_exchange-requires c =
    let h = c.requires.0 in
    let offer = c.plain-offer.ensures in (
      ap (λ w. w.tracked) h,
      ap (λ (w : Witnessed). w.book.written_in) c.self.view_is ∙ sym (ap (λ w. w.book) h),
      c.requires.1 ∙ sym (ap (λ w. w.book) h),
      offer.0,
      rw (ap (λ w. w.key) h, offer.3) (looks_moves c.self.inside.seen.log c.plain-offer.result.ask c.args.pen.now.nib),
    )

pub returns-clause-longer : goal.returns-clause-longer
returns-clause-longer c =
    let log = c.compare_exchange.new.seen.log in
    let first = first_in c.self.inside.title.log in
    subst (λ (l : List Entry). IsPrefix l (history_from first log)) (ap (λ (w : Witnessed). w.log) c.self.view_is) (history_prefix first c.self.inside.seen.log log c.compare_exchange.ensures.6)

pub returns-clause-all : goal.returns-clause-all
returns-clause-all c all prefix is =
    c.compare_exchange.ensures.7.1 (first_in c.self.inside.title.log) all (subst (IsPrefix all) (sym (ap (λ (w : Witnessed). w.log) c.self.view_is)) prefix)
    (is ∙ ap (λ (w : Witnessed). nib may_write (right_behind w.book.first all) 0) (sym c.self.view_is))
