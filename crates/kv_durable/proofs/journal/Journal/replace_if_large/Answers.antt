use Rattle.std.proofs.Common.{◌≡◌, ◌∙◌, ◌*◌, ◌<◌, ◌≤◌, ℕ, Err, ap, arith, length, subst}
use Rattle.kv_file.proofs.Added.{when_err}
use Rattle.kv_durable.proofs.Replacing.{by_version, either_by_version, on_or_stopped, size_of}
use Rattle.kv_durable.proofs.journal.Journal.replace_if_large.Goals as goal

pub returns-in_err-bytes-clause-goes_on : goal.returns-in_err-bytes-clause-goes_on
returns-in_err-bytes-clause-goes_on g c = when_err c.from_residual.result (λ _ base ks ls keeps. keeps)

pub returns-then-not-has_twice-clause-small : goal.returns-then-not-has_twice-clause-small
returns-then-not-has_twice-clause-small g c = λ _ was kept loose acts keeps stands same.
    let size = size_of g.F.JournalFile.has g.F.JournalFile.usable was kept loose c.args.self.now keeps acts c.args.version.now stands same c.new-next.result.seed c.args.seed c.in_ok-bytes.bytes.items c.new-next.ensures c.in_ok-bytes.ensures.items in
    let len : c.in_ok-bytes.bytes.len ≡ length c.in_ok-bytes.bytes.items = omega (arith, c.in_ok-bytes.bytes.ok) in
    subst (λ (n : ℕ). c.args.self.now.appender.offset ≤ 2 * n) (c.len.ensures ∙ len ∙ size) (c.has_twice.ensures.no c.if-not-has_twice.true)

pub returns-in_err-may_add-clause-large : goal.returns-in_err-may_add-clause-large
returns-in_err-may_add-clause-large g c = λ _ was kept loose acts keeps stands same.
    let size = size_of g.F.JournalFile.has g.F.JournalFile.usable was kept loose c.args.self.now keeps acts c.args.version.now stands same c.new-next.result.seed c.args.seed c.in_ok-bytes.bytes.items c.new-next.ensures c.in_ok-bytes.ensures.items in
    let len : c.in_ok-bytes.bytes.len ≡ length c.in_ok-bytes.bytes.items = omega (arith, c.in_ok-bytes.bytes.ok) in
    subst (λ (n : ℕ). 2 * n < c.args.self.now.appender.offset) (c.len.ensures ∙ len ∙ size) (c.has_twice.ensures.yes c.if-not-has_twice.false)

pub returns-in_err-replace-clause-large : goal.returns-in_err-replace-clause-large
returns-in_err-replace-clause-large g c = λ _ was kept loose acts keeps stands same.
    let size = size_of g.F.JournalFile.has g.F.JournalFile.usable was kept loose c.args.self.now keeps acts c.args.version.now stands same c.new-next.result.seed c.args.seed c.in_ok-bytes.bytes.items c.new-next.ensures c.in_ok-bytes.ensures.items in
    let len : c.in_ok-bytes.bytes.len ≡ length c.in_ok-bytes.bytes.items = omega (arith, c.in_ok-bytes.bytes.ok) in
    subst (λ (n : ℕ). 2 * n < c.args.self.now.appender.offset) (c.len.ensures ∙ len ∙ size) (c.has_twice.ensures.yes c.if-not-has_twice.false)

pub returns-in_err-replace-clause-goes_on : goal.returns-in_err-replace-clause-goes_on
returns-in_err-replace-clause-goes_on g c =
    let replaced = c.in_err-replace.ensures in
    when_err c.from_residual-in_err-replace.result
    (on_or_stopped g.F.JournalFile.has g.F.JournalFile.usable c.in_err-replace.field-0.0 c.args.self.now c.replace.new.self (λ e. replaced.unchanged (ap Err e)) (λ e. replaced.stops (ap Err e)))

pub returns-in_err-replace-clause-either : goal.returns-in_err-replace-clause-either
returns-in_err-replace-clause-either g c = when_err c.from_residual-in_err-replace.result (λ was kept loose acts keeps stands same.
    let replaced = c.in_err-replace.ensures in
    either_by_version g.F.JournalFile.has g.F.JournalFile.usable was kept loose c.args.self.now keeps acts c.args.version.now stands same c.in_err-replace.field-0.0 c.replace.new.self c.new-next.result.seed c.args.seed
    c.in_ok-bytes.bytes.items c.new-next.ensures c.in_ok-bytes.ensures.items replaced.stays (λ e. replaced.unchanged (ap Err e)) (λ e. replaced.unknown (ap Err e)))

pub returns-clause-large : goal.returns-clause-large
returns-clause-large g c = λ _ was kept loose acts keeps stands same.
    let size = size_of g.F.JournalFile.has g.F.JournalFile.usable was kept loose c.args.self.now keeps acts c.args.version.now stands same c.new-next.result.seed c.args.seed c.in_ok-bytes.bytes.items c.new-next.ensures c.in_ok-bytes.ensures.items in
    let len : c.in_ok-bytes.bytes.len ≡ length c.in_ok-bytes.bytes.items = omega (arith, c.in_ok-bytes.bytes.ok) in
    subst (λ (n : ℕ). 2 * n < c.args.self.now.appender.offset) (c.len.ensures ∙ len ∙ size) (c.has_twice.ensures.yes c.if-not-has_twice.false)

pub returns-clause-replaced : goal.returns-clause-replaced
returns-clause-replaced g c = λ _ was kept loose acts keeps stands same.
    by_version g.F.JournalFile.has g.F.JournalFile.usable was kept loose c.args.self.now keeps acts c.args.version.now stands same c.replace.new.self c.new-next.result.seed c.in_ok-bytes.bytes.items
    c.in_ok-bytes.ensures.items c.in_ok-bytes.ensures.payloads (λ before base ks ls k config lawful first is. c.in_ok-replace.ensures.ok before base ks ls k config lawful first is)
