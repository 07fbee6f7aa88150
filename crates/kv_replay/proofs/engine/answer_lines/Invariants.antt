use Rattle.std.proofs.Common.{◌≡◌, false}
use Rattle.kv_replay.specs.inside.Reading.{beginning}
use Rattle.kv_replay.specs.inside.Scripted.{Holds, scripted}
use Rattle.kv_replay.specs.Sessions.{Session}
use Rattle.kv_replay.proofs.Reached.{Reached}
use Rattle.kv_replay.proofs.engine.answer_lines.Given as goal

-- the devices are the same, and the input so far was read and answered
abbrev pub invariant-reads : goal.invariant-reads
invariant-reads g l = record {
  same_source : g.S.BoundedInput.goes_on l.initial.source l.source;
  same_sink : g.K.Output.goes_on l.initial.sink l.sink;
  in_time : g.S.BoundedInput.has_ended l.initial.source ≡ false → (g.S.BoundedInput.has_ended l.source ≡ false) × (g.S.BoundedInput.was_asked_late l.source ≡ g.S.BoundedInput.was_asked_late l.initial.source);
  kept : g.T.Target.goes_on l.initial.script.session.target l.script.session.target;
  reached : (session : Session) → Holds (beginning session) (scripted g.T.Target.bucket l.initial.script)
      → Reached l.form session (g.S.BoundedInput.left l.initial.source) (g.S.BoundedInput.left l.source) (g.K.Output.held l.initial.sink) (g.K.Output.held l.sink) (scripted g.T.Target.bucket l.script);
}

abbrev pub decreases-reads : goal.decreases-reads
decreases-reads g l = g.S.BoundedInput.calls_left l.source
