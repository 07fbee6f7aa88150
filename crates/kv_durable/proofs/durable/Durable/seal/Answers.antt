use Rattle.std.proofs.Common.{[], ◌∷◌, refl}
use Rattle.kv_file.proofs.Added.{when_err}
use Rattle.kv_model.specs.Acts.{Seal}
use Rattle.kv_model.specs.State.{after}
use Rattle.kv_model.specs.declared.call.Call.TheVariants as calls
use Rattle.kv_journal.specs.Records.{did}
use Rattle.kv_durable.proofs.Changed.{changed}
use Rattle.kv_durable.proofs.Recording.{handed, not_stopped, recorded, untouched}
use Rattle.kv_durable.proofs.durable.Durable.seal.Goals as goal

pub keep-requires-clause-steps : goal.keep-requires-clause-steps
keep-requires-clause-steps g c = (calls.Seal ∷ [], λ state r. (c.in_ok-prepared.ensures.step state r).1)

pub keep-requires-clause-room : goal.keep-requires-clause-room
keep-requires-clause-room g c = (not_stopped g.F.JournalFile.usable c.args.self.now.journal c.in_ok-prepared.ensures.goes).1

pub returns-clause-recorded : goal.returns-clause-recorded
returns-clause-recorded g c =
    let p = c.in_ok-prepared in
    let bytes = p.prepared.frames.items in
    recorded g.F.JournalFile.has g.F.JournalFile.usable (λ state. after state calls.Seal) (λ _. did Seal ∷ []) c.args.self.now c.keep.new.self bytes
    (changed g.F.JournalFile.has g.F.JournalFile.usable calls.Seal (λ _. did Seal ∷ []) c.args.self.now c.keep.new.self bytes Seal p.prepared.next p.ensures.frame (λ state r. refl) (λ state r. refl) (λ state r. refl)
    (λ state r. (p.ensures.step state r).1) c.in_ok-keep.ensures.bucket)
    c.in_ok-keep.ensures.added c.in_ok-keep.ensures.each

pub returns-in_err-prepared-clause-handed : goal.returns-in_err-prepared-clause-handed
returns-in_err-prepared-clause-handed g c = when_err c.from_residual.result (untouched g.F.JournalFile.has g.F.JournalFile.usable (λ _. did Seal ∷ []) c.args.self.now c.args.self.now refl)

pub returns-in_err-keep-clause-handed : goal.returns-in_err-keep-clause-handed
returns-in_err-keep-clause-handed g c =
    let p = c.in_ok-prepared in
    when_err c.from_residual-in_err-keep.result
    (handed g.F.JournalFile.has g.F.JournalFile.usable (λ _. did Seal ∷ []) c.args.self.now c.keep.new.self p.prepared.frames.items (λ state r. p.ensures.frame.are) c.in_err-keep.ensures.left)
