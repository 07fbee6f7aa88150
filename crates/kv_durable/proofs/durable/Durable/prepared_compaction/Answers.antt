use Rattle.kv_single.proofs.Acting.{compact_steps}
use Rattle.kv_durable.proofs.durable.Durable.prepared_compaction.Goals as goal

pub returns-clause-step : goal.returns-clause-step
returns-clause-step g c =
    let s = c.in_ok-next in
    let value = c.version.ensures.value in
    let may = c.in_ok-may_compact.ensures.ok in
    let old = c.args.self.now.bucket in
    compact_steps old c.args.floor c.version.result.now s.next value s.ensures.config s.ensures.ok may
