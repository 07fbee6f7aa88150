use Rattle.std.proofs.Common.{rules}
use Rattle.kv_replay.proofs.takes.answer_take.Goals as goal

pub returns-clause-ok : goal.returns-clause-ok
returns-clause-ok g c = search rules
