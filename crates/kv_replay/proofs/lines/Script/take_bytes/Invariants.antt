use Rattle.std.proofs.Common.{◌≤◌, length}
use Rattle.kv_replay.specs.Sessions.{Session}
use Rattle.kv_replay.specs.inside.Reading.{Reading}
use Rattle.kv_replay.specs.inside.Scripted.{Holds, scripted}
use Rattle.kv_replay.proofs.TakingLines.{Took}
use Rattle.kv_replay.proofs.lines.Script.take_bytes.Given as goal

-- the sink is the same, and the lines so far were taken
abbrev pub invariant-lines : goal.invariant-lines
invariant-lines g l = record {
  same : g.K.Output.goes_on l.initial.sink l.sink;
  kept : g.T.Target.goes_on l.initial.self.session.target l.self.session.target;
  took : (r : Reading Session) → Holds r (scripted g.T.Target.bucket l.initial.self)
      → Took l.form r l.bytes (g.K.Output.held l.initial.sink) l.initial.out.items (g.K.Output.held l.sink) l.out.items (scripted g.T.Target.bucket l.self) l.left;
  shorter : length l.left ≤ length l.bytes;
}

abbrev pub decreases-lines : goal.decreases-lines
decreases-lines g l = length l.left
