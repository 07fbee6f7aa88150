use Rattle.std.proofs.Common.{refl}
use Rattle.kv_durable.proofs.Adding.{added, err_on, left, ok_on_both}
use Rattle.kv_durable.proofs.journal.Journal.add.Goals as goal

pub returns-clause-ok : goal.returns-clause-ok
returns-clause-ok g c = ok_on_both c.add.result c.add.ensures.ok c.add.ensures.every (λ on every base kept loose entries keeps can one is.
    added g.F.JournalFile.has g.F.JournalFile.usable base kept loose entries c.args.self.now (record c.args.self.now { appender = c.add.new.self }) c.args.bytes.now keeps can one is refl refl c.add.ensures.same on every)

pub returns-clause-err : goal.returns-clause-err
returns-clause-err g c = err_on c.add.result c.add.ensures.err (λ on base kept loose entries keeps is.
    left g.F.JournalFile.has g.F.JournalFile.usable base kept loose entries c.args.self.now c.add.new.self.file c.args.bytes.now keeps is on)
