use Rattle.kv_model.specs.Requests.{asked}
use Rattle.kv_single.proofs.Answering.{write_done}
use Rattle.kv_single.proofs.bucket.Bucket.write_with.Goals as goal

pub returns-clause-ok : goal.returns-clause-ok
returns-clause-ok g c = rw (← c.self.view_is) (λ state r.
    write_done state _ (asked c.args.request.now) c.write_with.new.self c.revision.result r c.in_ok-write_with.ensures.config c.in_ok-write_with.ensures.ok c.revision.ensures.value)
