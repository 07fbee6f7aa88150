use Rattle.std.proofs.Common.{refl, arith}
use Rattle.kv_watch.proofs.Passing.{behind_initial, behind_live}
use Rattle.kv_watch.proofs.cursor.Cursor.step.Goals as goal
use Rattle.kv_watch.proofs.cursor.Cursor.step.Goals.{in-Marker, in-Entry+then-is_none, in-Entry+else-is_none}

pub returns : goal.returns
returns c =
    let self = c.self.inside in
    elim c.match-next.branch [
      | in-Marker w ↦ rw (w.in-Marker.is, ← c.self.view_is, c.saturating_add-self-inside-2.ensures, w.self-inside-is) refl
      | in-Entry+then-is_none w ↦
          rw (w.in-Entry.is, ← c.self.view_is, c.saturating_add-self-inside-2.ensures, w.self-inside-is, w.saturating_add-self-inside.ensures)
          (behind_live self.filters self.options self.owed.items w.pop.new.self.items self.owed.len w.pop.new.self.len w.pop.result self.marker self.seen self.next self.handed w.in-Entry.revision (omega (arith, self.owed.ok.0)) (omega (arith, w.pop.new.self.ok.0)) w.if-is_none.ensures w.pop.ensures.cases)
      | in-Entry+else-is_none w ↦
          rw (w.in-Entry.is, ← c.self.view_is, c.saturating_add-self-inside-2.ensures, w.self-inside-is)
          (behind_initial self.filters self.options self.owed.items w.pop.new.self.items w.pop.result self.marker self.seen self.next self.handed w.in-Entry.revision w.if-is_none.ensures w.pop.ensures.items)
    ]
