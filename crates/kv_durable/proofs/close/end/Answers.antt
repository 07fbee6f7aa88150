use Rattle.std.proofs.Common.{◌∙◌, sym, subst, inr, arith}
use Rattle.kv_journal.specs.Records.{closed}
use Rattle.kv_durable.specs.Journals.{IsFrameOf}
use Rattle.kv_file.proofs.Added.{when_err}
use Rattle.kv_durable.proofs.Recording.{not_stopped}
use Rattle.kv_durable.proofs.Ended.{end_loose, end_untouched, ended, not_ended}
use Rattle.kv_durable.proofs.close.end.Goals as goal

pub returns-clause-ok : goal.returns-clause-ok
returns-clause-ok g c = λ acts base kept loose stands is keeps.
    ended g.F.JournalFile.has g.F.JournalFile.usable base kept loose acts c.args.journal.now c.add.new.self c.flush.new.self c.deref.result.now c.revision.result is (subst (IsFrameOf c.args.journal.now (closed c.revision.result)) (sym c.deref.ensures.value) c.in_ok-frame.ensures.is) (c.revision.ensures.acts acts stands) keeps
    c.in_ok-add.ensures.ok c.in_ok-flush.ensures.ok (c.flush.ensures.framing ∙ c.add.ensures.framing)

pub returns-in_err-may_add-clause-handed : goal.returns-in_err-may_add-clause-handed
returns-in_err-may_add-clause-handed g c = when_err c.from_residual.result (λ acts base kept loose stands is keeps. end_untouched g.F.JournalFile.has g.F.JournalFile.usable base kept loose acts c.args.journal.now keeps)

pub returns-in_err-frame-clause-handed : goal.returns-in_err-frame-clause-handed
returns-in_err-frame-clause-handed g c = when_err c.from_residual-in_err-frame.result (λ acts base kept loose stands is keeps. end_untouched g.F.JournalFile.has g.F.JournalFile.usable base kept loose acts c.args.journal.now keeps)

pub returns-in_err-add-clause-handed : goal.returns-in_err-add-clause-handed
returns-in_err-add-clause-handed g c = when_err c.from_residual-in_err-add.result (λ acts base kept loose stands is keeps.
    not_ended g.F.JournalFile.has g.F.JournalFile.usable base kept loose acts c.args.journal.now c.add.new.self.appender.file c.deref.result.now c.revision.result is (subst (IsFrameOf c.args.journal.now (closed c.revision.result)) (sym c.deref.ensures.value) c.in_ok-frame.ensures.is) (c.revision.ensures.acts acts stands) keeps
    c.in_err-add.ensures.err)

pub returns-in_err-flush-clause-handed : goal.returns-in_err-flush-clause-handed
returns-in_err-flush-clause-handed g c = when_err c.from_residual-in_err-flush.result (λ acts base kept loose stands is keeps.
    end_loose g.F.JournalFile.has g.F.JournalFile.usable base kept loose acts c.args.journal.now c.add.new.self c.flush.new.self.appender.file c.deref.result.now c.revision.result is (subst (IsFrameOf c.args.journal.now (closed c.revision.result)) (sym c.deref.ensures.value) c.in_ok-frame.ensures.is) (c.revision.ensures.acts acts stands) keeps
    c.in_ok-add.ensures.ok c.in_err-flush.ensures.err c.add.ensures.framing)

pub returns-in_err-flush-clause-fault : goal.returns-in_err-flush-clause-fault
returns-in_err-flush-clause-fault g c = λ _.
    let works = (not_stopped g.F.JournalFile.usable c.args.journal.now c.in_ok-may_add.ensures.ok).0 in
    inr (omega (arith, c.add.ensures.count, c.in_err-flush.ensures.failed (c.in_ok-add.ensures.still works)))
