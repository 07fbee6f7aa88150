use Rattle.std.proofs.Common.{Err, ap}
use Rattle.kv_file.proofs.Added.{when_err}
use Rattle.kv_durable.proofs.Replacing.{by_version, either_by_version, on_or_stopped}
use Rattle.kv_durable.proofs.journal.Journal.replace_by_checkpoint.Goals as goal

pub returns-in_err-bytes-clause-goes_on : goal.returns-in_err-bytes-clause-goes_on
returns-in_err-bytes-clause-goes_on g c = when_err c.from_residual-in_err-bytes.result (λ _ base ks ls keeps. keeps)

pub returns-in_err-replace-clause-goes_on : goal.returns-in_err-replace-clause-goes_on
returns-in_err-replace-clause-goes_on g c =
    let replaced = c.in_err-replace.ensures in
    when_err c.from_residual-in_err-replace.result
    (on_or_stopped g.F.JournalFile.has g.F.JournalFile.usable c.in_err-replace.field-0.0 c.args.self.now c.replace.new.self (λ e. replaced.unchanged (ap Err e)) (λ e. replaced.stops (ap Err e)))

pub returns-in_err-replace-clause-left : goal.returns-in_err-replace-clause-left
returns-in_err-replace-clause-left g c = when_err c.from_residual-in_err-replace.result (λ was kept loose acts keeps stands same.
    let replaced = c.in_err-replace.ensures in
    either_by_version g.F.JournalFile.has g.F.JournalFile.usable was kept loose c.args.self.now keeps acts c.args.version.now stands same c.in_err-replace.field-0.0 c.replace.new.self c.new-next.result.seed c.args.seed
    c.in_ok-bytes.bytes.items c.new-next.ensures c.in_ok-bytes.ensures.items replaced.stays (λ e. replaced.unchanged (ap Err e)) (λ e. replaced.unknown (ap Err e)))

pub returns-clause-ok : goal.returns-clause-ok
returns-clause-ok g c = λ was kept loose acts keeps stands same.
    by_version g.F.JournalFile.has g.F.JournalFile.usable was kept loose c.args.self.now keeps acts c.args.version.now stands same c.replace.new.self c.new-next.result.seed c.in_ok-bytes.bytes.items
    c.in_ok-bytes.ensures.items c.in_ok-bytes.ensures.payloads (λ before base ks ls k config lawful first is. c.in_ok-replace.ensures.ok before base ks ls k config lawful first is)
