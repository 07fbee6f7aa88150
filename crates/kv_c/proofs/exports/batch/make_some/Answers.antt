use Rattle.kv_c.specs.Making.{MakesBatch}
use Rattle.kv_c.proofs.Waited.{batch_can, can_make, made_batch, makes}
use Rattle.kv_c.proofs.exports.batch.make_some.Goals as goal

pub make-requires : goal.make-requires
make-requires c =
    let f = c.in-Some in
    let r = c.in-Ok in
    can_make c.args.content.now r.ready f.bucket.now f.filed.now f.ensures.some (batch_can r.ready f.bucket.now f.filed.now c.args.requests.now r.ensures.goes r.ensures.short r.ensures.batch)

pub returns-in-Ok-clause-made : goal.returns-in-Ok-clause-made
returns-in-Ok-clause-made c = λ made.
    let f = c.in-Some in
    let r = c.in-Ok in
    makes (MakesBatch c.args.requests.now) c.args.content.now c.make.new.self r.ready f.bucket.now f.filed.now f.ensures.some c.make.ensures
    (λ w waits. made_batch r.ready f.bucket.now f.filed.now w waits c.args.requests.now r.ensures.batch r.ensures.frame)
