use Rattle.std.proofs.Common.{refl}
use Rattle.std.proofs.lemmas.Result.{IfOk-weaker}
use Rattle.kv_durable.specs.Durables.{IsReplaced}
use Rattle.kv_durable.proofs.Replacing.{either_left, goes_on, is_replaced}
use Rattle.kv_durable.proofs.durable.Durable.checkpoint.Goals as goal

pub returns-clause-ok : goal.returns-clause-ok
returns-clause-ok g c =
    let has = g.F.JournalFile.has in
    let usable = g.F.JournalFile.usable in
    let old = c.args.self.now in
    let new = record c.args.self.now { journal = c.replace_by_checkpoint.new.self } in
    let own = c.version.ensures.value in
    IfOk-weaker c.replace_by_checkpoint.result _ (λ _. IsReplaced has usable (λ s. s) old new)
    (λ _ on state ks ls at. is_replaced has usable c.version.result.now old own state ks ls at new refl on) c.replace_by_checkpoint.ensures.ok

pub returns-clause-goes_on : goal.returns-clause-goes_on
returns-clause-goes_on g c =
    let new = record c.args.self.now { journal = c.replace_by_checkpoint.new.self } in
    goes_on g.F.JournalFile.has g.F.JournalFile.usable c.replace_by_checkpoint.result c.args.self.now new refl c.replace_by_checkpoint.ensures.goes_on

pub returns-clause-left : goal.returns-clause-left
returns-clause-left g c =
    let file = c.replace_by_checkpoint.new.self.appender.file in
    either_left g.F.JournalFile.has g.F.JournalFile.usable c.replace_by_checkpoint.result c.version.result.now c.args.self.now c.version.ensures.value file c.args.seed c.replace_by_checkpoint.ensures.left
