use Rattle.std.proofs.Common.{◌≡◌, ap, sym, ◌∙◌}
use Rattle.logbook.specs.Pages.{nib, may_write}
use Rattle.kv_publish.specs.Beginnings.{first_in}
use Rattle.kv_publish.specs.Witnesses.{Witnessed}
use Rattle.kv_publish.proofs.Choosing.{chooses_moves}
use Rattle.kv_publish.proofs.witness.Witness.choose.Goals as goal

pub compare_exchange-requires : goal.compare_exchange-requires
compare_exchange-requires g c =
    let h = c.requires.head in
    let right = c.requires.right in
    let was = c.self.inside.seen in
    let offer = c.plain-offer.ensures in
    let ask = c.plain-offer.result.ask in (
      ap (λ w. w.tracked) h,
      ap (λ (w : Witnessed). w.book.written_in) c.self.view_is ∙ sym (ap (λ w. w.book) h),
      right.0 ∙ sym (ap (λ w. w.book) h),
      offer.0,
      rw (ap (λ w. w.key) h, right.1, offer.3) (chooses_moves g.M.Known.holds c.requires.some.0 c.requires.some.1 was.log ask c.args.self.now.book.first),
    )

pub returns : goal.returns
returns g c =
    let first = first_in c.self.inside.title.log in
    let same : c.args.self.now.book.first ≡ first = ap (λ (w : Witnessed). w.book.first) (sym c.self.view_is) in
    c.compare_exchange.ensures.7 first (c.requires.right.1 ∙ ap (λ k. nib may_write k 0) same)
