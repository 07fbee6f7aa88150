use Rattle.std.proofs.Common.{rules}
use Rattle.kv_replay.proofs.refusals.answer_refusal.Goals as goal

pub returns-in-OutOfMemory-clause-memory : goal.returns-in-OutOfMemory-clause-memory
returns-in-OutOfMemory-clause-memory c = search rules
