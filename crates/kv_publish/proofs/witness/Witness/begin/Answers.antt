use Rattle.std.proofs.Common.{true, [], ◌∷◌, ap, sym, ◌∙◌, List, refl}
use Rattle.logbook.specs.Pages.{nib, may_write}
use Rattle.kv_publish.specs.declared.entry.Entry.{Entry}
use Rattle.kv_publish.specs.Beginnings.{began_in, first_in}
use Rattle.kv_publish.specs.Rules.{history_from}
use Rattle.kv_publish.proofs.Former.{acts_titled, title_came}
use Rattle.kv_publish.proofs.witness.Witness.begin.Goals as goal

pub open_row-title-requires : goal.open_row-title-requires
open_row-title-requires g c = (
  record { head = refl; came = (refl, title_came ((0, true) ∷ []) g.B.Began.acts refl) },
  (λ log. tt),
  c.alone.ensures.1,
)

pub returns-clause-empty : goal.returns-clause-empty
returns-clause-empty g c =
    ap (λ (l : List Entry). history_from (first_in l) c.make_right-pen.new.seen.log) c.open_row-title.ensures.1 ∙ c.make_right-pen.ensures.unused

pub returns-clause-began : goal.returns-clause-began
returns-clause-began g c = ap began_in c.open_row-title.ensures.1 ∙ acts_titled g.B.Began.acts

pub returns-clause-right : goal.returns-clause-right
returns-clause-right g c =
    c.make_right-pen.ensures.right ∙ ap (λ (l : List Entry). nib may_write (first_in l) 0) (sym c.open_row-title.ensures.1)
