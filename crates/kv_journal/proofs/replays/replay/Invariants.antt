use Rattle.std.proofs.Common.{◌≡◌, ◌+◌, List, length}
use Rattle.kv_journal.specs.Entries.{Entry}
use Rattle.kv_journal.proofs.Going.{IsReplayed}
use Rattle.kv_journal.proofs.replays.replay.Given as goal

abbrev pub invariant-loop-payload : goal.invariant-loop-payload
invariant-loop-payload l = record {
  within : l.offset + length l.rest ≡ l.at + length l.bytes;
  done : (entries : List Entry) × IsReplayed l.fn.version l.framing.seed l.at l.bytes entries l.offset l.rest l.version;
}

abbrev pub decreases-loop-payload : goal.decreases-loop-payload
decreases-loop-payload l = length l.rest
