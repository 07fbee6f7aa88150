use Rattle.kv_single.specs.Held.{Represents}
use Rattle.kv_model.specs.State.{State}
use Rattle.kv_replay.proofs.Taking.{Took}
use Rattle.kv_replay.proofs.takes.answer_takes.Given as goal

-- the takes so far were made and answered
abbrev pub invariant-loop : goal.invariant-loop
invariant-loop g l = record {
  kept : g.T.Target.goes_on l.initial.target l.target;
  took : (state : State) → Represents state (g.T.Target.bucket l.initial.target)
      → Took l.form state l.watch l.count l.counter l.initial.out.items l.out.items (g.T.Target.bucket l.target);
}
