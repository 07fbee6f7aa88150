use Rattle.std.proofs.Common.{map}
use Rattle.kv_run.specs.Reporting.{replies_text}
use Rattle.kv_run.proofs.Reporting.{Told}
use Rattle.kv_run.proofs.races.writing.write_replies.Given as goal

-- the sink is the same, and the lists so far were written
abbrev pub invariant-loop-n : goal.invariant-loop-n
invariant-loop-n g l = record {
  same : g.K.Output.goes_on l.initial.sink l.sink;
  told : Told replies_text (map (λ some. some.items) l.replies) (g.K.Output.held l.initial.sink) (g.K.Output.held l.sink) l.n;
}
