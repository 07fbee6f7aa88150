use Rattle.std.proofs.Common.{refl}
use Rattle.kv_file.proofs.Added.{when_err}
use Rattle.kv_durable.proofs.Recording.{untouched}
use Rattle.kv_durable.proofs.Written.{handed_write, recorded_write, told_by}
use Rattle.kv_durable.proofs.durable.Durable.write.Goals as goal

pub returns-in_err-may_add-clause-handed : goal.returns-in_err-may_add-clause-handed
returns-in_err-may_add-clause-handed g c = when_err c.from_residual.result (untouched g.F.JournalFile.has g.F.JournalFile.usable (told_by c.args.request.now) c.args.self.now c.args.self.now refl)

pub returns-then-value-gt-MOST_VALUE-clause-handed : goal.returns-then-value-gt-MOST_VALUE-clause-handed
returns-then-value-gt-MOST_VALUE-clause-handed g c = untouched g.F.JournalFile.has g.F.JournalFile.usable (told_by c.args.request.now) c.args.self.now c.args.self.now refl

pub returns-in-Ok-clause-recorded : goal.returns-in-Ok-clause-recorded
returns-in-Ok-clause-recorded g c =
    let new = record c.args.self.now { bucket = c.write_recorded.new.bucket; journal = c.write_recorded.new.journal } in
    recorded_write g.F.JournalFile.has g.F.JournalFile.usable c.args.self.now new c.args.request.now c.in-Ok.revision c.in-Ok.ensures.ok c.in-Ok.ensures.added

pub returns-in-Err-clause-handed : goal.returns-in-Err-clause-handed
returns-in-Err-clause-handed g c =
    let new = record c.args.self.now { bucket = c.write_recorded.new.bucket; journal = c.write_recorded.new.journal } in
    handed_write g.F.JournalFile.has g.F.JournalFile.usable g.F.JournalFile.faults c.in-Err.field-0 c.args.self.now new c.args.request.now c.in-Err.ensures.refused c.in-Err.ensures.left c.in-Err.ensures.unchanged

pub returns-in-Err-2-clause-handed : goal.returns-in-Err-2-clause-handed
returns-in-Err-2-clause-handed g c =
    let new = record c.args.self.now { bucket = c.write_recorded.new.bucket; journal = c.write_recorded.new.journal } in
    handed_write g.F.JournalFile.has g.F.JournalFile.usable g.F.JournalFile.faults c.in-Err-2.refusal c.args.self.now new c.args.request.now c.in-Err-2.ensures.refused c.in-Err-2.ensures.left c.in-Err-2.ensures.unchanged
