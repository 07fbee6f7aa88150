use Rattle.std.proofs.Common.{List, map, subst}
use Rattle.std.specs.List.{AllZip}
use Rattle.std.proofs.lemmas.Result.{IfOk-weaker}
use Rattle.kv_model.specs.Requests.{asked}
use Rattle.kv_race.specs.Telling.{IsTold}
use Rattle.kv_race.proofs.Writing.{told_each}
use Rattle.kv_race.proofs.threads.run_worker.Goals as goal

pub returns : goal.returns
returns g c =
    let config = g.N.LiveName.opening.config in
    let script = c.args.script.now.items in
    IfOk-weaker c.work.result _ (λ answers. AllZip (IsTold config) (map asked script) answers.items)
    (λ answers h.
    let each = told_each config c.new-desk.result (map asked c.deref.result.now) answers.items c.work.new.desk h in
    subst (λ (requests : List _). AllZip (IsTold config) (map asked requests) answers.items) c.deref.ensures.value each)
    c.work.ensures.ok
