use Rattle.std.proofs.Common.{List}
use Rattle.std.proofs.lemmas.Result.{IfOk-weaker, IfErr-weaker}
use Rattle.kv_model.specs.Acts.{Act}
use Rattle.kv_model.specs.Requests.{asked}
use Rattle.kv_bucket.specs.Keeping.{WritesSomewhere, RefusedSomewhere}
use Rattle.kv_bucket.proofs.Somewhere.{writes_somewhere, refused_somewhere}
use Rattle.kv_bucket.proofs.live.write_on.Goals as goal

pub returns-clause-ok : goal.returns-clause-ok
returns-clause-ok g c =
    let config = g.N.LiveName.opening.config in
    let request = asked c.args.request.now in
    let old = c.args.keeper.now in
    let later = c.write.new.self.published in
    IfOk-weaker c.write.result _ (λ revision. (acts : List Act) × WritesSomewhere config request revision acts)
    (λ revision h. (later, writes_somewhere config old request revision later c.bucket.ensures.state h)) c.write.ensures.published

pub returns-clause-refused : goal.returns-clause-refused
returns-clause-refused g c =
    let config = g.N.LiveName.opening.config in
    let request = asked c.args.request.now in
    let old = c.args.keeper.now in
    IfErr-weaker c.write.result _ (λ e. RefusedSomewhere config request e)
    (λ e h. refused_somewhere config old request e c.bucket.ensures.state h) c.write.ensures.refused
