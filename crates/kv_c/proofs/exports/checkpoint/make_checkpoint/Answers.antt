use Rattle.kv_c.proofs.Checkpointed.{can_replace}
use Rattle.kv_c.proofs.exports.checkpoint.make_checkpoint.Goals as goal

pub returns-in-Ok-clause-made : goal.returns-in-Ok-clause-made
returns-in-Ok-clause-made c = λ made.
    let f = c.in-Some in
    let r = c.in-Ok in
    c.make_checkpoint.ensures c.args.seed (can_replace c.args.seed c.args.content.now f.bucket.now f.filed.now r.next r.bytes.items f.ensures.some r.ensures.ok)
