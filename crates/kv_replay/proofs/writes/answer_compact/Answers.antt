use Rattle.std.proofs.Common.{rules}
use Rattle.kv_replay.proofs.writes.answer_compact.Goals as goal

pub returns-in_ok-append_compacted-in-Ok-clause-ok : goal.returns-in_ok-append_compacted-in-Ok-clause-ok
returns-in_ok-append_compacted-in-Ok-clause-ok g c = search rules
