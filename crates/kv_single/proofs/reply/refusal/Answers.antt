use Rattle.std.proofs.Common.{rules}
use Rattle.kv_single.proofs.reply.refusal.Goals as goal

pub returns-then-eq-clause-err : goal.returns-then-eq-clause-err
returns-then-eq-clause-err c = search rules
