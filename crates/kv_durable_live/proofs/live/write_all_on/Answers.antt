use Rattle.std.proofs.Common.{◌≡◌, [], List, map}
use Rattle.std.proofs.lemmas.Result.{IfErr-weaker, IfOk-weaker}
use Rattle.kv_bucket.specs.Batches.{RefusedAllSomewhere, WritesAllSomewhere}
use Rattle.kv_bucket.proofs.Batching.{all_somewhere, refused_all_somewhere}
use Rattle.kv_durable.specs.declared.error.BatchError.TheVariants.{Refused}
use Rattle.kv_durable_live.proofs.live.write_all_on.Goals as goal
use Rattle.kv_model.specs.Acts.{Act}
use Rattle.kv_model.specs.Requests.{asked}
use Rattle.kv_model.specs.declared.batch.BatchRefused.{BatchRefused}

pub returns-clause-ok : goal.returns-clause-ok
returns-clause-ok g c =
    let config = g.N.LiveName.opening.config in
    let requests = map asked c.args.requests.now in
    let later = c.write_all.new.self.keeper.published in
    IfOk-weaker c.write_all.result _ (λ first. (c.args.requests.now ≡ [] → ⊥) → (acts : List Act) × WritesAllSomewhere config requests first acts)
    (λ first h some. (later, all_somewhere config c.args.keeper.now.keeper requests first later c.keeper.ensures.state (h some))) c.write_all.ensures.published

pub returns-clause-refused : goal.returns-clause-refused
returns-clause-refused g c =
    let config = g.N.LiveName.opening.config in
    let requests = map asked c.args.requests.now in
    IfErr-weaker c.write_all.result _ (λ e. (x : BatchRefused) → e ≡ Refused x → RefusedAllSomewhere config requests x)
    (λ e h x is. refused_all_somewhere config c.args.keeper.now.keeper requests x c.keeper.ensures.state (h x is)) c.write_all.ensures.refused
