use Rattle.std.proofs.Common.{◌*◌, ◌<◌, ◌≤◌, refl}
use Rattle.kv_durable.specs.Bases.{opening_size}
use Rattle.kv_durable.proofs.Replacing.{by_checkpoint, either_left, goes_on, is_replaced}
use Rattle.kv_durable.proofs.durable.Durable.replace_large.Goals as goal

pub returns-clause-small : goal.returns-clause-small
returns-clause-small g c = λ e state ks ls at.
    let old = c.args.self.now in
    let own = c.version.ensures.value in
    by_checkpoint g.F.JournalFile.has g.F.JournalFile.usable c.version.result.now old own state ks ls at (λ base. old.journal.appender.offset ≤ 2 * opening_size c.args.seed base) (c.replace_if_large.ensures.small e)

pub returns-clause-large : goal.returns-clause-large
returns-clause-large g c = λ e state ks ls at.
    let old = c.args.self.now in
    let own = c.version.ensures.value in
    by_checkpoint g.F.JournalFile.has g.F.JournalFile.usable c.version.result.now old own state ks ls at (λ base. 2 * opening_size c.args.seed base < old.journal.appender.offset) (c.replace_if_large.ensures.large e)

pub returns-clause-replaced : goal.returns-clause-replaced
returns-clause-replaced g c = λ e state ks ls at.
    let own = c.version.ensures.value in
    is_replaced g.F.JournalFile.has g.F.JournalFile.usable c.version.result.now c.args.self.now own state ks ls at (record c.args.self.now { journal = c.replace_if_large.new.self }) refl (c.replace_if_large.ensures.replaced e)

pub returns-clause-goes_on : goal.returns-clause-goes_on
returns-clause-goes_on g c =
    let new = record c.args.self.now { journal = c.replace_if_large.new.self } in
    goes_on g.F.JournalFile.has g.F.JournalFile.usable c.replace_if_large.result c.args.self.now new refl c.replace_if_large.ensures.goes_on

pub returns-clause-either : goal.returns-clause-either
returns-clause-either g c =
    let file = c.replace_if_large.new.self.appender.file in
    either_left g.F.JournalFile.has g.F.JournalFile.usable c.replace_if_large.result c.version.result.now c.args.self.now c.version.ensures.value file c.args.seed c.replace_if_large.ensures.either
