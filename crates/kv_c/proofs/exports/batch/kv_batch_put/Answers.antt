use Rattle.kv_c.proofs.exports.batch.kv_batch_put.Goals as goal

pub returns-clause-code : goal.returns-clause-code
returns-clause-code c = λ is other. c.gather.ensures.code is _ c.put.ensures other
