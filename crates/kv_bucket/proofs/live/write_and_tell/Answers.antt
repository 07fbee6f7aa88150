use Rattle.std.proofs.Common.{rules, List, subst, sym}
use Rattle.kv_model.specs.Acts.{Act}
use Rattle.kv_model.specs.Requests.{asked}
use Rattle.kv_bucket.specs.Keeping.{PublishesWrite, RefusedSomewhere}
use Rattle.kv_bucket.proofs.Somewhere.{refused_somewhere}
use Rattle.kv_bucket.proofs.live.write_and_tell.Goals as goal

pub returns-clause-ok : goal.returns-clause-ok
returns-clause-ok g c =
    subst (λ (acts : List Act). PublishesWrite g.N.LiveName.opening.config (asked c.args.request.now) c.in_ok-told.told.0 c.args.keeper.now.published acts) (sym c.in_ok-told.ensures.told)
    c.in_ok-told.ensures.published

pub returns-in_err-told-clause-refused : goal.returns-in_err-told-clause-refused
returns-in_err-told-clause-refused g c =
    let inner : RefusedSomewhere g.N.LiveName.opening.config (asked c.args.request.now) c.in_err-told.field-0.0 =
    refused_somewhere g.N.LiveName.opening.config c.args.keeper.now (asked c.args.request.now) c.in_err-told.field-0.0 c.bucket.ensures.state c.in_err-told.ensures.refused in
    search (rules, inner)
