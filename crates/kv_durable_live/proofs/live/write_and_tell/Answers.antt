use Rattle.std.proofs.Common.{◌≡◌, rules}
use Rattle.kv_bucket.specs.Keeping.{RefusedSomewhere}
use Rattle.kv_bucket.proofs.Somewhere.{refused_somewhere}
use Rattle.kv_durable.specs.declared.error.DurableError.TheVariants.{Refused}
use Rattle.kv_durable_live.proofs.live.write_and_tell.Goals as goal
use Rattle.kv_keys.specs.declared.error.KvError.{KvError}
use Rattle.kv_model.specs.Requests.{asked}

pub returns-in_err-told-clause-refused : goal.returns-in_err-told-clause-refused
returns-in_err-told-clause-refused g c =
    let config = g.N.LiveName.opening.config in
    let request = asked c.args.request.now in
    let inner : (x : KvError) → c.in_err-told.field-0.0 ≡ Refused x → RefusedSomewhere config request x =
    λ x is. refused_somewhere config c.args.keeper.now.keeper request x c.keeper.ensures.state (c.in_err-told.ensures.refused x is) in
    search (rules, inner)
