use Rattle.std.proofs.Common.{map}
use Rattle.kv_single.specs.Replies.{answer_of}
use Rattle.kv_run.specs.Reporting.{seen_text}
use Rattle.kv_run.proofs.Reporting.{Told}
use Rattle.kv_run.proofs.races.writing.write_seen.Given as goal

-- the sink is the same, and the lists so far were written
abbrev pub invariant-loop-n : goal.invariant-loop-n
invariant-loop-n g l = record {
  same : g.K.Output.goes_on l.initial.sink l.sink;
  told : Told (seen_text l.form) (map (λ some. map answer_of some.items) l.seen) (g.K.Output.held l.initial.sink) (g.K.Output.held l.sink) l.n;
}
