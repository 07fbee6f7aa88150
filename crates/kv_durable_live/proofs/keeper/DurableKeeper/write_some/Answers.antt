use Rattle.std.proofs.Common.{refl}
use Rattle.kv_durable.proofs.Batched.{batch_bytes, told_by}
use Rattle.kv_durable.proofs.Recording.{handed, untouched}
use Rattle.kv_durable_live.specs.Sharing.{durable_of}
use Rattle.kv_durable_live.proofs.Accepting.{batch_recorded}
use Rattle.kv_durable_live.proofs.keeper.DurableKeeper.write_some.Goals as goal
use Rattle.kv_file.proofs.Added.{when_err}
use Rattle.kv_publish.specs.Steps.{acts_from}

pub returns-in_err-framed-clause-handed : goal.returns-in_err-framed-clause-handed
returns-in_err-framed-clause-handed g c = when_err c.from_residual.result (untouched g.F.JournalFile.has g.F.JournalFile.usable (told_by c.args.requests.now) (durable_of c.args.self.now.keeper c.args.self.now.journal) (durable_of c.args.self.now.keeper c.args.self.now.journal) refl)

pub returns-in_err-receipt-clause-handed : goal.returns-in_err-receipt-clause-handed
returns-in_err-receipt-clause-handed g c =
    let p = c.in_ok-framed in
    let f = p.framed in
    when_err c.from_residual-in_err-receipt.result
    (handed g.F.JournalFile.has g.F.JournalFile.usable (told_by c.args.requests.now) (durable_of c.args.self.now.keeper c.args.self.now.journal) (durable_of c.keep_all.new.self.keeper c.keep_all.new.self.journal) f.frame.items
    (batch_bytes (durable_of c.args.self.now.keeper c.args.self.now.journal) c.args.requests.now f.next.first f.next.version f.frame.items p.ensures.batch p.ensures.frame) c.in_err-receipt.ensures.left)

pub returns-clause-recorded : goal.returns-clause-recorded
returns-clause-recorded g c =
    let p = c.in_ok-framed in
    let f = p.framed in
    batch_recorded g.F.JournalFile.has g.F.JournalFile.usable c.args.self.now.keeper c.keep_all.new.self.keeper c.args.self.now.journal c.keep_all.new.self.journal (acts_from f.next.first c.args.requests.now) f.next.version f.frame.items
    c.in_ok-receipt.ensures.keeper c.in_ok-receipt.ensures.added c.in_ok-receipt.ensures.each c.args.requests.now f.next.first p.ensures.batch p.ensures.frame
