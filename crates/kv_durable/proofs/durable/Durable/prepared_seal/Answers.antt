use Rattle.kv_single.proofs.Acting.{seal_steps}
use Rattle.kv_durable.proofs.durable.Durable.prepared_seal.Goals as goal

pub returns-clause-step : goal.returns-clause-step
returns-clause-step g c =
    let s = c.in_ok-next in
    let value = c.version.ensures.value in
    let old = c.args.self.now.bucket in
    seal_steps old c.version.result.now s.next value s.ensures.ok s.ensures.stands
