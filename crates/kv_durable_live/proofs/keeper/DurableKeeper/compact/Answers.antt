use Rattle.std.proofs.Common.{[], ◌∷◌, refl, subst, sym}
use Rattle.kv_bucket.specs.Keeping.{IsKeptStep}
use Rattle.kv_durable.proofs.Recording.{untouched}
use Rattle.kv_durable_live.specs.Sharing.{durable_of}
use Rattle.kv_durable_live.proofs.Accepting.{compaction_recorded}
use Rattle.kv_durable_live.proofs.keeper.DurableKeeper.compact.Goals as goal
use Rattle.kv_file.proofs.Added.{when_err}
use Rattle.kv_journal.specs.Records.{did}
use Rattle.kv_model.specs.Acts.{Compact}
use Rattle.kv_model.specs.Answers.{Compacted}
use Rattle.kv_model.specs.declared.call.Call.TheVariants as calls

pub returns-in_err-framed-clause-handed : goal.returns-in_err-framed-clause-handed
returns-in_err-framed-clause-handed g c = when_err c.from_residual.result (untouched g.F.JournalFile.has g.F.JournalFile.usable (λ _. did (Compact c.args.floor) ∷ []) (durable_of c.args.self.now.keeper c.args.self.now.journal) (durable_of c.args.self.now.keeper c.args.self.now.journal) refl)

pub returns-clause-recorded : goal.returns-clause-recorded
returns-clause-recorded g c =
    let p = c.in_ok-framed in
    let f = p.framed in
    compaction_recorded g.F.JournalFile.has g.F.JournalFile.usable c.args.self.now.keeper c.keep.new.self.keeper c.args.self.now.journal c.keep.new.self.journal (f.next.act ∷ []) f.next.version f.frame.items
    c.in_ok-keep.ensures.keeper c.in_ok-keep.ensures.added c.in_ok-keep.ensures.each c.args.floor p.ensures.step p.ensures.may p.ensures.frame

pub returns-clause-ok : goal.returns-clause-ok
returns-clause-ok g c = subst (IsKeptStep c.args.self.now.keeper (calls.Compact c.args.floor) (Compacted c.args.floor)) (sym c.in_ok-keep.ensures.keeper) c.in_ok-framed.ensures.ok.1
