use Rattle.std.proofs.Common.{◌≡◌, [], ◌∷◌, ap, ◌∙◌, subst}
use Rattle.kv_bucket.specs.Keeping.{kept_with}
use Rattle.kv_durable.specs.Journals.{AddsFrames, LeavesFrames}
use Rattle.kv_durable.proofs.Recording.{handed, untouched}
use Rattle.kv_durable.proofs.Written.{told_by, write_bytes}
use Rattle.kv_durable_live.specs.Sharing.{durable_of}
use Rattle.kv_durable_live.proofs.Accepting.{write_recorded}
use Rattle.kv_durable_live.proofs.keeper.DurableKeeper.write.Goals as goal
use Rattle.kv_file.proofs.Added.{when_err}
use Rattle.kv_file.specs.declared.appender.Sync.TheVariants.{Each}

pub returns-in_err-framed-clause-handed : goal.returns-in_err-framed-clause-handed
returns-in_err-framed-clause-handed g c = when_err c.from_residual.result (untouched g.F.JournalFile.has g.F.JournalFile.usable (told_by c.args.request.now) (durable_of c.args.self.now.keeper c.args.self.now.journal) (durable_of c.framed_write.new.self.keeper c.framed_write.new.self.journal) (ap (λ s. durable_of s.keeper s.journal) c.in_err-framed.ensures.same))

pub returns-in_err-keep-clause-handed : goal.returns-in_err-keep-clause-handed
returns-in_err-keep-clause-handed g c =
    let p = c.in_ok-framed in
    let f = p.framed in
    when_err c.from_residual-in_err-keep.result
    (handed g.F.JournalFile.has g.F.JournalFile.usable (told_by c.args.request.now) (durable_of c.args.self.now.keeper c.args.self.now.journal) (durable_of c.keep.new.self.keeper c.keep.new.self.journal) f.frame.items
    (write_bytes (durable_of c.args.self.now.keeper c.args.self.now.journal) c.args.request.now f.next.version f.frame.items p.ensures.accepts p.ensures.frame)
    (subst (λ s. LeavesFrames g.F.JournalFile.has g.F.JournalFile.usable f.frame.items s.journal c.keep.new.self.journal.appender.file) p.ensures.same c.in_err-keep.ensures.left))

pub returns-clause-recorded : goal.returns-clause-recorded
returns-clause-recorded g c =
    let p = c.in_ok-framed in
    let f = p.framed in
    write_recorded g.F.JournalFile.has g.F.JournalFile.usable c.args.self.now.keeper c.keep.new.self.keeper c.args.self.now.journal c.keep.new.self.journal (f.next.act ∷ []) f.next.version f.frame.items
    (c.in_ok-keep.ensures.keeper ∙ ap (λ s. kept_with s.keeper (f.next.act ∷ []) f.next.version) p.ensures.same)
    (subst (λ s. AddsFrames g.F.JournalFile.has g.F.JournalFile.usable f.frame.items s.journal c.keep.new.self.journal) p.ensures.same c.in_ok-keep.ensures.added)
    (subst (λ s. s.journal.appender.sync ≡ Each → c.keep.new.self.journal.appender.loose ≡ 0) p.ensures.same c.in_ok-keep.ensures.each)
    c.args.request.now p.ensures.config p.ensures.accepts p.ensures.frame
