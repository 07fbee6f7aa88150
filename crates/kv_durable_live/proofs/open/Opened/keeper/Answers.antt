use Rattle.kv_durable_live.proofs.Opening.{at_opened}
use Rattle.kv_durable_live.proofs.open.Opened.keeper.Goals as goal

pub returns-in-Ok-clause-at : goal.returns-in-Ok-clause-at
returns-in-Ok-clause-at g c = λ base entries own is keeps.
    let opening = g.N.LiveName.opening in
    at_opened g.F.JournalFile.has g.F.JournalFile.usable opening.config opening.book.began base entries c.in-Ok.keeper c.args.self.journal c.in-Ok.ensures.at own is keeps
