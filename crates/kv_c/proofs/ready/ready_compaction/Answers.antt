use Rattle.std.proofs.Common.{sym, subst}
use Rattle.kv_model.specs.Answers.{Compacted}
use Rattle.kv_model.specs.declared.call.Call.TheVariants.{Compact}
use Rattle.kv_single.specs.Stepping.{IsStep}
use Rattle.kv_single.proofs.Acting.{compact_steps}
use Rattle.kv_store.specs.Stored.{Stored}
use Rattle.kv_c.proofs.ready.ready_compaction.Goals as goal

pub returns-clause-step : goal.returns-clause-step
returns-clause-step c =
    subst (λ (v : Stored). IsStep c.args.bucket.now (Compact c.args.floor) (Compacted c.args.floor) (record c.args.bucket.now { version = v })) (sym c.apart.ensures)
    (compact_steps c.args.bucket.now c.args.floor c.version.result.now c.in_ok-next.next c.version.ensures.value c.in_ok-next.ensures.config c.in_ok-next.ensures.ok c.in_ok-may_compact.ensures.ok)
