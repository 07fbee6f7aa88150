use Rattle.std.proofs.Common.{List, map}
use Rattle.std.proofs.lemmas.Result.{IfOk-weaker, IfErr-weaker}
use Rattle.kv_model.specs.Acts.{Act}
use Rattle.kv_model.specs.Requests.{asked}
use Rattle.kv_bucket.specs.Batches.{WritesAllSomewhere, RefusedAllSomewhere}
use Rattle.kv_bucket.proofs.Batching.{all_somewhere, refused_all_somewhere}
use Rattle.kv_bucket.proofs.batch.write_all_on.Goals as goal

pub returns-clause-ok : goal.returns-clause-ok
returns-clause-ok g c =
    let config = g.N.LiveName.opening.config in
    let requests = map asked c.args.requests.now in
    let later = c.write_all.new.self.published in
    IfOk-weaker c.write_all.result _ (λ first. (acts : List Act) × WritesAllSomewhere config requests first acts)
    (λ first h. (later, all_somewhere config c.args.keeper.now requests first later c.bucket.ensures.state h)) c.write_all.ensures.published

pub returns-clause-refused : goal.returns-clause-refused
returns-clause-refused g c =
    let config = g.N.LiveName.opening.config in
    let requests = map asked c.args.requests.now in
    IfErr-weaker c.write_all.result _ (λ refused. RefusedAllSomewhere config requests refused)
    (λ refused h. refused_all_somewhere config c.args.keeper.now requests refused c.bucket.ensures.state h) c.write_all.ensures.refused
