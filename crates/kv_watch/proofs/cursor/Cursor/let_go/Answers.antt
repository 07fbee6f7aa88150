use Rattle.std.proofs.Common.{arith}
use Rattle.kv_watch.proofs.Owing.{owes_nothing}
use Rattle.kv_watch.proofs.cursor.Cursor.let_go.Goals as goal

pub returns-then-is_empty-clause-opening : goal.returns-then-is_empty-clause-opening
returns-then-is_empty-clause-opening c = rw (← c.self.view_is) (λ base is. owes_nothing c.self.inside.owed.items c.self.inside.owed.len c.is_empty.result (omega (arith, c.self.inside.owed.ok.0)) c.is_empty.ensures c.if-is_empty.true)
