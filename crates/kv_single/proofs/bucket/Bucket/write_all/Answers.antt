use Rattle.kv_single.proofs.Batching.{batch_done}
use Rattle.kv_single.proofs.bucket.Bucket.write_all.Goals as goal

pub returns-clause-ok : goal.returns-clause-ok
returns-clause-ok c = rw (← c.self.view_is)
    (batch_done _ c.args.requests.now c.in-Some.first.now c.in-Some.rest.now c.in_ok-next.next c.in_ok-next.revision c.in-Some.ensures.cases.0 c.in_ok-next.ensures.config c.in_ok-next.ensures.ok c.in_ok-next.ensures.first)
