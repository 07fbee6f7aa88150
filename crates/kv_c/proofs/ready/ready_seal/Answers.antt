use Rattle.std.proofs.Common.{sym, subst}
use Rattle.kv_model.specs.Answers.{Sealed}
use Rattle.kv_model.specs.declared.call.Call.TheVariants.{Seal}
use Rattle.kv_single.specs.Stepping.{IsStep}
use Rattle.kv_single.proofs.Acting.{seal_steps}
use Rattle.kv_store.specs.Stored.{Stored}
use Rattle.kv_c.proofs.ready.ready_seal.Goals as goal

pub returns-clause-step : goal.returns-clause-step
returns-clause-step c =
    subst (λ (v : Stored). IsStep c.args.bucket.now Seal Sealed (record c.args.bucket.now { version = v })) (sym c.apart.ensures)
    (seal_steps c.args.bucket.now c.version.result.now c.in_ok-next.next c.version.ensures.value c.in_ok-next.ensures.ok c.in_ok-next.ensures.stands)
