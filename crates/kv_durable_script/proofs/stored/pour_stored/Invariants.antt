use Rattle.std.proofs.Common.{map, take}
use Rattle.kv_replay.specs.inside.Written.{Pours}
use Rattle.kv_durable_script.proofs.StoredLines.{text_of}
use Rattle.kv_durable_script.proofs.stored.pour_stored.Given as goal

abbrev pub invariant-loop-numbered : goal.invariant-loop-numbered
invariant-loop-numbered g l = record {
  same : g.K.Output.goes_on l.fn.sink l.sink;
  poured : Pours (text_of (map (λ f. f.1.now) (take l.numbered-index l.writes))) (g.K.Output.held l.fn.sink) l.fn.out.items (g.K.Output.held l.sink) l.out.items;
}
