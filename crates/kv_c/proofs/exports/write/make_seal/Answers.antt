use Rattle.kv_c.specs.Making.{MakesAct}
use Rattle.kv_c.proofs.Waited.{act_can, can_make, made_seal, makes}
use Rattle.kv_c.proofs.exports.write.make_seal.Goals as goal
use Rattle.kv_model.specs.Acts.{Seal}
use Rattle.kv_model.specs.Answers.{Sealed}
use Rattle.kv_model.specs.declared.call.Call.TheVariants as calls

pub make-requires : goal.make-requires
make-requires c =
    let f = c.in-Some in
    let r = c.in-Ok in
    can_make c.args.content.now r.ready f.bucket.now f.filed.now f.ensures.some (act_can r.ready f.bucket.now f.filed.now calls.Seal Sealed r.ensures.goes r.ensures.short r.ensures.step)

pub returns-in-Ok-clause-made : goal.returns-in-Ok-clause-made
returns-in-Ok-clause-made c = λ made.
    let f = c.in-Some in
    let r = c.in-Ok in
    makes (MakesAct calls.Seal Sealed Seal) c.args.content.now c.make.new.self r.ready f.bucket.now f.filed.now f.ensures.some c.make.ensures
    (λ w waits. made_seal r.ready f.bucket.now f.filed.now w waits r.ensures.step r.ensures.frame)
