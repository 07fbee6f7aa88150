use Rattle.std.proofs.Common.{List, length}
use Rattle.kv_model.specs.Acts.{Act}
use Rattle.kv_journal.proofs.Together.{AreRedone}
use Rattle.kv_journal.proofs.entry.redo_batch.Given as goal

abbrev pub invariant-loop-part : goal.invariant-loop-part
invariant-loop-part l = (acts : List Act) × AreRedone l.version l.bytes acts l.rest l.next

abbrev pub decreases-loop-part : goal.decreases-loop-part
decreases-loop-part l = length l.rest
