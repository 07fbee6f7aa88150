use Rattle.std.proofs.Common.{sym, ap, ◌∙◌}
use Rattle.std.specs.Prelude.{nat_le}
use Rattle.kv_watch.proofs.Reaching.{behind_none, behind_some}
use Rattle.kv_watch.proofs.cursor.Cursor.behind.Goals as goal

pub returns-in-Some : goal.returns-in-Some
returns-in-Some c = rw (← c.self.view_is) (λ n began acts base at.
    ap (λ r. nat_le r c.args.floor) c.revision.ensures
    ∙ sym (behind_some n began acts base c.args.now.now _ c.args.floor c.in-Some.write.now at (c.in-Some.ensures.first acts at.place.now_stands)))

pub returns-in-None : goal.returns-in-None
returns-in-None c = rw (← c.self.view_is) (λ n began acts base at.
    sym (behind_none n began acts base c.args.now.now _ c.args.floor at (c.in-None.ensures.first acts at.place.now_stands)))
