use Rattle.kv_single.specs.Held.{Represents}
use Rattle.kv_model.specs.State.{State}
use Rattle.kv_replay.proofs.Taking.{Poured}
use Rattle.kv_replay.proofs.takes.pour_takes.Given as goal

-- the sink is the same, and the takes so far were made and answered
abbrev pub invariant-loop : goal.invariant-loop
invariant-loop g l = record {
  same : g.K.Output.goes_on l.initial.sink l.sink;
  kept : g.T.Target.goes_on l.initial.target l.target;
  poured : (state : State) → Represents state (g.T.Target.bucket l.initial.target)
      → Poured l.form state l.watch l.count l.counter (g.K.Output.held l.initial.sink) l.initial.out.items (g.K.Output.held l.sink) l.out.items (g.T.Target.bucket l.target);
}
