use Rattle.std.proofs.Common.{◌≡◌, length, arith}
use Rattle.kv_journal.specs.Checkpoints.{stored_payload}
use Rattle.kv_journal.proofs.Pushing.{one_frame}
use Rattle.kv_journal.proofs.checkpoint.push_stored.Goals as goal

pub returns-clause-items : goal.returns-clause-items
returns-clause-items c =
    let here : c.len.result ≡ length c.args.out.now.items = omega (arith, c.len.ensures) in
    one_frame c.push_frame.result c.args.framing.now.seed c.args.out.now.items c.push_frame.new.out.items c.in_ok-payload.payload.items (stored_payload c.args.write.now) c.len.result
    c.in_ok-payload.ensures.items here (rw c.deref.ensures.value at c.push_frame.ensures)
