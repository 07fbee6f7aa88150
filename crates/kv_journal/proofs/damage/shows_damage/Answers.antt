use Rattle.std.proofs.Common.{inl, inr, refl}
use Rattle.kv_journal.specs.Damage.{told_end}
use Rattle.kv_journal.proofs.damage.shows_damage.Goals as goal

pub returns-then-is_shown_next-clause-yes : goal.returns-then-is_shown_next-clause-yes
returns-then-is_shown_next-clause-yes c = λ _.
    let next = c.is_shown_next.ensures.yes c.if-is_shown_next.true in
    (told_end c.args.bytes.now, next.0, next.1, record { shown = inr (refl, next.2) })

pub returns-clause-yes : goal.returns-clause-yes
returns-clause-yes c = λ e.
    let near = c.is_shown_near.ensures.yes e in
    (near.0, near.1, near.2, record { shown = inl near.3 })

pub returns-clause-no : goal.returns-clause-no
returns-clause-no c = λ e shows.
    elim shows.3.shown [
      | inl near ↦ c.is_shown_near.ensures.no e shows.0 shows.1 shows.2 near
      | inr next ↦ c.is_shown_next.ensures.no c.if-is_shown_next.false shows.1 shows.2 next.1
    ]
