use Rattle.std.proofs.Common.{rules}
use Rattle.kv_durable.proofs.Written.{accepts_ok}
use Rattle.kv_c.proofs.more.ready_more.Goals as goal

pub returns-in_err-frames-clause-refused : goal.returns-in_err-frames-clause-refused
returns-in_err-frames-clause-refused c =
    let inner = accepts_ok (record c.args.bucket.now { version = c.args.version.now }) c.args.request.now c.in_ok-next.next c.in_ok-next.ensures.ok in
    search (rules, inner)

pub returns-clause-frame : goal.returns-clause-frame
returns-clause-frame c = λ revision.
    let frame = c.in_ok-frames.ensures.is revision in
    search (rules, frame)
