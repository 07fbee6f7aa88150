use Rattle.std.proofs.Common.{refl, rules}
use Rattle.kv_durable.proofs.Batched.{batch_prepared, no_memory, refused_so}
use Rattle.kv_durable.proofs.durable.Durable.prepared_batch.Goals as goal

pub returns-in-Ok-clause-batch : goal.returns-in-Ok-clause-batch
returns-in-Ok-clause-batch g c =
    let n = c.in_ok-next in
    let value = c.version.ensures.value in
    let inner = batch_prepared c.args.self.now.bucket c.args.requests.now c.args.first.now c.args.rest.now c.version.result.now n.next n.revision c.requires value n.ensures.config n.ensures.ok n.ensures.first in
    search (rules, inner)

pub returns-in_err-next-clause-refused : goal.returns-in_err-next-clause-refused
returns-in_err-next-clause-refused g c =
    let value = c.version.ensures.value in
    let inner = refused_so c.args.self.now.bucket c.args.requests.now c.args.first.now c.args.rest.now c.version.result.now c.in_err-next.field-0.0 c.requires value c.in_err-next.ensures.refused in
    search (rules, inner)

pub returns-in-Err-clause-refused : goal.returns-in-Err-clause-refused
returns-in-Err-clause-refused g c =
    let n = c.in_ok-next in
    let value = c.version.ensures.value in
    let inner = no_memory c.args.self.now.bucket c.args.requests.now c.args.first.now c.args.rest.now c.version.result.now n.next _ c.requires value n.ensures.ok refl in
    search (rules, inner)
