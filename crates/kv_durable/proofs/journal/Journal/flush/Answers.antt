use Rattle.std.proofs.Common.{refl}
use Rattle.kv_durable.proofs.Adding.{err_on, flushed, not_flushed, ok_on_both}
use Rattle.kv_durable.proofs.journal.Journal.flush.Goals as goal

pub returns-clause-ok : goal.returns-clause-ok
returns-clause-ok g c = ok_on_both c.flush.result c.flush.ensures.ok c.flush.ensures.count (λ on count base kept loose keeps.
    flushed g.F.JournalFile.has g.F.JournalFile.usable base kept loose c.args.self.now (record c.args.self.now { appender = c.flush.new.self }) keeps refl refl count.1 on)

pub returns-clause-err : goal.returns-clause-err
returns-clause-err g c = err_on c.flush.result c.flush.ensures.err (λ on base kept loose keeps.
    not_flushed g.F.JournalFile.has g.F.JournalFile.usable base kept loose c.args.self.now c.flush.new.self.file keeps on)
