use Rattle.std.proofs.Common.{refl, rules}
use Rattle.kv_single.proofs.Answering.{on_err}
use Rattle.kv_single.proofs.bucket.Bucket.take_reply.Goals as goal

pub returns-in_err-reply-clause-unchanged : goal.returns-in_err-reply-clause-unchanged
returns-in_err-reply-clause-unchanged c = on_err c.from_residual.result refl

pub returns-clause-ok : goal.returns-clause-ok
returns-clause-ok c = search rules
