use Rattle.std.proofs.Common.{◌≡◌, List}
use Rattle.std.proofs.lemmas.Result.{IfErr-weaker, IfOk-weaker}
use Rattle.kv_bucket.specs.Keeping.{RefusedSomewhere, WritesSomewhere}
use Rattle.kv_bucket.proofs.Somewhere.{refused_somewhere, writes_somewhere}
use Rattle.kv_durable.specs.declared.error.DurableError.TheVariants.{Refused}
use Rattle.kv_durable_live.proofs.live.write_on.Goals as goal
use Rattle.kv_keys.specs.declared.error.KvError.{KvError}
use Rattle.kv_model.specs.Acts.{Act}
use Rattle.kv_model.specs.Requests.{asked}

pub returns-clause-ok : goal.returns-clause-ok
returns-clause-ok g c =
    let config = g.N.LiveName.opening.config in
    let request = asked c.args.request.now in
    let later = c.write.new.self.keeper.published in
    IfOk-weaker c.write.result _ (λ revision. (acts : List Act) × WritesSomewhere config request revision acts)
    (λ revision h. (later, writes_somewhere config c.args.keeper.now.keeper request revision later c.keeper.ensures.state h)) c.write.ensures.published

pub returns-clause-refused : goal.returns-clause-refused
returns-clause-refused g c =
    let config = g.N.LiveName.opening.config in
    let request = asked c.args.request.now in
    IfErr-weaker c.write.result _ (λ e. (x : KvError) → e ≡ Refused x → RefusedSomewhere config request x)
    (λ e h x is. refused_somewhere config c.args.keeper.now.keeper request x c.keeper.ensures.state (h x is)) c.write.ensures.refused
