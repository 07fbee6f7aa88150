use Rattle.std.proofs.Common.{length}
use Rattle.kv_journal.specs.inside.Contents.{writes_told}
use Rattle.kv_journal.proofs.Telling.{AreTold}
use Rattle.kv_journal.proofs.contents.Contents.of.Given as goal

abbrev pub invariant-loop-payload : goal.invariant-loop-payload
invariant-loop-payload l = AreTold l.framing.seed l.at l.bytes (writes_told l.writes.items) l.offset l.rest

abbrev pub decreases-loop-payload : goal.decreases-loop-payload
decreases-loop-payload l = length l.rest
