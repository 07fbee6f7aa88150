use Rattle.std.proofs.Common.{rules}
use Rattle.kv_bucket.specs.Keeping.{kept_with}
use Rattle.kv_durable_live.proofs.Accepting.{no_room}
use Rattle.kv_durable_live.proofs.keeper.DurableKeeper.framed_batch.Goals as goal
use Rattle.kv_publish.specs.Steps.{acts_from}

pub returns-in-Err-clause-refused : goal.returns-in-Err-clause-refused
returns-in-Err-clause-refused g c =
    let n = c.in_ok-next.next in
    let keeper = c.args.self.now.keeper in
    let inner = no_room keeper (kept_with keeper (acts_from n.first c.args.requests.now) n.version) c.args.requests.now c.args.first.now c.args.rest.now n.first c.requires c.in_ok-next.ensures.ok in
    search (rules, inner)
