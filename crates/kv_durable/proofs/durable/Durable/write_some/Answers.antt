use Rattle.std.proofs.Common.{refl, sym, subst}
use Rattle.kv_file.proofs.Added.{when_err}
use Rattle.kv_single.specs.Batches.{IsBatch}
use Rattle.kv_single.specs.Held.{Bucketed}
use Rattle.kv_durable.proofs.Batched.{batch_bytes, batch_leads, later, told_by, wrote_all}
use Rattle.kv_durable.proofs.Recording.{handed, not_stopped, recorded, untouched}
use Rattle.kv_durable.proofs.durable.Durable.write_some.Goals as goal

pub returns-in_err-batch-clause-handed : goal.returns-in_err-batch-clause-handed
returns-in_err-batch-clause-handed g c = when_err c.from_residual.result (untouched g.F.JournalFile.has g.F.JournalFile.usable (told_by c.args.requests.now) c.args.self.now c.args.self.now refl)

pub returns-in_err-keep-clause-handed : goal.returns-in_err-keep-clause-handed
returns-in_err-keep-clause-handed g c =
    let p = c.in_ok-batch in
    when_err c.from_residual-in_err-keep.result
    (handed g.F.JournalFile.has g.F.JournalFile.usable (told_by c.args.requests.now) c.args.self.now c.keep.new.self p.batch.prepared.frames.items
    (batch_bytes c.args.self.now c.args.requests.now p.batch.first p.batch.prepared.next p.batch.prepared.frames.items p.ensures.batch p.ensures.frame) c.in_err-keep.ensures.left)

pub keep-requires-clause-steps : goal.keep-requires-clause-steps
keep-requires-clause-steps g c =
    let p = c.in_ok-batch in
    batch_leads c.args.self.now.bucket c.args.requests.now p.batch.first p.batch.prepared.next p.ensures.batch

pub keep-requires-clause-room : goal.keep-requires-clause-room
keep-requires-clause-room g c = (not_stopped g.F.JournalFile.usable c.args.self.now.journal c.in_ok-batch.ensures.goes).1

pub returns-clause-recorded : goal.returns-clause-recorded
returns-clause-recorded g c =
    let p = c.in_ok-batch in
    let has = g.F.JournalFile.has in
    let usable = g.F.JournalFile.usable in
    let requests = c.args.requests.now in
    let old = c.args.self.now in
    let new = c.keep.new.self in
    let bytes = p.batch.prepared.frames.items in
    recorded has usable (later requests) (told_by requests) old new bytes
    (wrote_all has usable old new requests p.batch.first p.batch.prepared.next bytes p.ensures.batch p.ensures.frame c.in_ok-keep.ensures.bucket)
    c.in_ok-keep.ensures.added c.in_ok-keep.ensures.each

pub returns-clause-ok : goal.returns-clause-ok
returns-clause-ok g c =
    let p = c.in_ok-batch in
    subst (λ (b : Bucketed). IsBatch c.args.self.now.bucket c.args.requests.now p.batch.first b) (sym c.in_ok-keep.ensures.bucket) p.ensures.batch
