use Rattle.std.proofs.Common.{map, rules, subst, sym}
use Rattle.kv_model.specs.Requests.{asked}
use Rattle.kv_publish.specs.Steps.{JournalStep}
use Rattle.kv_bucket.specs.Batches.{PublishesAll, RefusedAllSomewhere}
use Rattle.kv_bucket.proofs.Batching.{refused_all_somewhere}
use Rattle.kv_bucket.proofs.batch.write_all_and_tell.Goals as goal

pub returns-clause-ok : goal.returns-clause-ok
returns-clause-ok g c =
    subst (λ (step : JournalStep). PublishesAll g.N.LiveName.opening.config (map asked c.args.requests.now) c.in_ok-told.told.0 step.before step.acts) (sym c.in_ok-told.ensures.told)
    c.in_ok-told.ensures.published

pub returns-in_err-told-clause-refused : goal.returns-in_err-told-clause-refused
returns-in_err-told-clause-refused g c =
    let inner : RefusedAllSomewhere g.N.LiveName.opening.config (map asked c.args.requests.now) c.in_err-told.field-0.0 =
    refused_all_somewhere g.N.LiveName.opening.config c.args.keeper.now (map asked c.args.requests.now) c.in_err-told.field-0.0 c.bucket.ensures.state c.in_err-told.ensures.refused in
    search (rules, inner)
