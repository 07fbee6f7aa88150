use Rattle.std.proofs.Common.{◌≡◌, ◌++◌, ◌∷◌, [], ap, sym, ◌∙◌}
use Rattle.logbook.specs.Pages.{Nib, nib, may_write}
use Rattle.kv_publish.specs.declared.entry.Entry.{Entry}
use Rattle.kv_publish.specs.Beginnings.{first_in}
use Rattle.kv_publish.specs.Rules.{history_from, right_behind}
use Rattle.kv_publish.specs.Witnesses.{Witnessed}
use Rattle.kv_publish.proofs.Histories.{right_more}
use Rattle.kv_publish.proofs.Stepping.{adds_moves}
use Rattle.kv_publish.proofs.witness.Witness.add.Goals as goal

pub compare_exchange-requires : goal.compare_exchange-requires
compare_exchange-requires c =
    let h = c.requires.head in
    let right = c.requires.right in
    let was = c.self.inside.seen in
    let offer = c.plain-offer.ensures in
    let ask = c.plain-offer.result.ask in
    let key : ask.right ≡ right_behind c.args.self.now.book.first c.args.self.now.log =
    ap (λ (e : Entry). e.right) offer.1 ∙ (ap (λ p. p.nib.key) c.of-right.ensures ∙ ap (λ (n : Nib). n.key) right.1) in
    let pen : c.args.pen.now.nib ≡ nib may_write ask.right 0 = right.1 ∙ ap (λ k. nib may_write k 0) (sym key) in (
      ap (λ w. w.tracked) h,
      ap (λ (w : Witnessed). w.book.written_in) c.self.view_is ∙ sym (ap (λ w. w.book) h),
      right.0 ∙ sym (ap (λ w. w.book) h),
      offer.0,
      rw (ap (λ w. w.key) h, pen, offer.3) (adds_moves was.log ask),
    )

pub returns-clause-added : goal.returns-clause-added
returns-clause-added c =
    let was = c.self.inside.seen.log in
    let first = first_in c.self.inside.title.log in
    let offer = c.plain-offer.ensures in
    let ask = c.plain-offer.result.ask in
    let key : ask.right ≡ right_behind first (history_from first was) =
    ap (λ (e : Entry). e.right) offer.1
    ∙ (ap (λ p. p.nib.key) c.of-right.ensures
    ∙ (ap (λ (n : Nib). n.key) c.requires.right.1 ∙ ap (λ (w : Witnessed). right_behind w.book.first w.log) (sym c.self.view_is))) in (
      c.of-right.result.value.nib.key,
      c.make_right-next.result.nib.key,
      c.compare_exchange.ensures.7 first key
          ∙ (ap (λ (w : Witnessed). w.log ++ ask ∷ []) c.self.view_is ∙ ap (λ (e : Entry). c.args.self.now.log ++ e ∷ []) offer.1),
    )

pub returns-clause-right : goal.returns-clause-right
returns-clause-right c =
    let was = c.self.inside.seen.log in
    let first = first_in c.self.inside.title.log in
    let offer = c.plain-offer.ensures in
    let ask = c.plain-offer.result.ask in
    let key : ask.right ≡ right_behind first (history_from first was) =
    ap (λ (e : Entry). e.right) offer.1
    ∙ (ap (λ p. p.nib.key) c.of-right.ensures
    ∙ (ap (λ (n : Nib). n.key) c.requires.right.1 ∙ ap (λ (w : Witnessed). right_behind w.book.first w.log) (sym c.self.view_is))) in
    let behind = ap (right_behind first) (c.compare_exchange.ensures.7 first key) ∙ (right_more first (history_from first was) ask ∙ ap (λ (e : Entry). e.next) offer.1) in
    c.make_right-next.ensures.right ∙ ap (λ k. nib may_write k 0) (sym behind)
