use Rattle.std.proofs.Common.{refl, rules, sym, subst}
use Rattle.kv_durable.proofs.Batched.{batch_prepared, no_memory, refused_so}
use Rattle.kv_single.specs.Batches.{IsBatch}
use Rattle.kv_store.specs.Stored.{Stored}
use Rattle.kv_c.proofs.ready.ready_batch.Goals as goal

pub returns-in-Ok-clause-batch : goal.returns-in-Ok-clause-batch
returns-in-Ok-clause-batch c =
    let n = c.in_ok-next in
    subst (λ (v : Stored). IsBatch c.args.bucket.now c.args.requests.now n.told (record c.args.bucket.now { version = v })) (sym c.apart.ensures)
    (batch_prepared c.args.bucket.now c.args.requests.now c.args.first.now c.args.rest.now c.version.result.now n.next n.told c.requires c.version.ensures.value n.ensures.config n.ensures.ok n.ensures.first)

pub returns-in_err-next-clause-refused : goal.returns-in_err-next-clause-refused
returns-in_err-next-clause-refused c =
    let inner = refused_so c.args.bucket.now c.args.requests.now c.args.first.now c.args.rest.now c.version.result.now c.in_err-next.field-0.0 c.requires c.version.ensures.value c.in_err-next.ensures.refused in
    search (rules, inner)

pub returns-in-Err-clause-refused : goal.returns-in-Err-clause-refused
returns-in-Err-clause-refused c =
    let n = c.in_ok-next in
    let inner = no_memory c.args.bucket.now c.args.requests.now c.args.first.now c.args.rest.now c.version.result.now n.next _ c.requires c.version.ensures.value n.ensures.ok refl in
    search (rules, inner)
