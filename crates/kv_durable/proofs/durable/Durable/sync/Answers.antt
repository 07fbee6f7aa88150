use Rattle.std.proofs.Common.{[], refl}
use Rattle.kv_file.proofs.Added.{when_err}
use Rattle.kv_durable.proofs.Ended.{all_synced, flush_handed}
use Rattle.kv_durable.proofs.Recording.{untouched}
use Rattle.kv_durable.proofs.durable.Durable.sync.Goals as goal

pub returns-clause-ok : goal.returns-clause-ok
returns-clause-ok g c = all_synced g.F.JournalFile.has g.F.JournalFile.usable c.args.self.now (record c.args.self.now { journal = c.flush.new.self }) refl c.in_ok-flush.ensures.ok

pub returns-in_err-may_add-clause-handed : goal.returns-in_err-may_add-clause-handed
returns-in_err-may_add-clause-handed g c = when_err c.from_residual.result (untouched g.F.JournalFile.has g.F.JournalFile.usable (λ _. []) c.args.self.now c.args.self.now refl)

pub returns-in_err-flush-clause-handed : goal.returns-in_err-flush-clause-handed
returns-in_err-flush-clause-handed g c = when_err c.from_residual-in_err-flush.result (flush_handed g.F.JournalFile.has g.F.JournalFile.usable c.args.self.now (record c.args.self.now { journal = c.flush.new.self }) c.in_err-flush.ensures.err)
