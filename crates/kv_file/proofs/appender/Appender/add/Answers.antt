use Rattle.kv_file.proofs.Added.{half_added, not_kept, so_on_err, when_err, without_room}
use Rattle.kv_file.proofs.appender.Appender.add.Goals as goal

pub returns-in_err-make_room-clause-err : goal.returns-in_err-make_room-clause-err
returns-in_err-make_room-clause-err g c =
    when_err c.from_residual.result
    (λ kept loose h. without_room g.F.JournalFile.has kept loose c.args.bytes.now c.make_room.new.self.file (c.in_err-make_room.ensures.err kept loose h))

pub returns-in_err-append-clause-err : goal.returns-in_err-append-clause-err
returns-in_err-append-clause-err g c =
    when_err c.from_residual-in_err-append.result
    (λ kept loose h. half_added g.F.JournalFile.has g.F.JournalFile.usable c.args.self.now.waiting kept loose c.args.bytes.now c.make_room.new.self c.append.new.self.file (c.in_ok-make_room.ensures.ok kept loose h)
    c.in_err-append.ensures.err)

pub returns-then-is_due-clause-err : goal.returns-then-is_due-clause-err
returns-then-is_due-clause-err g c =
    so_on_err c.flush.result c.flush.ensures.err
    (λ err kept loose h. not_kept g.F.JournalFile.has g.F.JournalFile.usable c.args.self.now.waiting kept loose c.args.bytes.now c.make_room.new.self c.append.new.self c.flush.new.self.file
    (c.in_ok-make_room.ensures.ok kept loose h) c.in_ok-append.ensures.ok err)
