use Rattle.std.proofs.Common.{◌≡◌, ◌+◌, ℕ, List, length}
use Rattle.std.specs.List.{AllByRecursion}
use Rattle.kv_frames.specs.Frames.{Splits}
use Rattle.kv_journal.specs.Entries.{Entry, payloads_of}
use Rattle.kv_durable_script.specs.inside.Dumpable.{CanDumpEntry}
use Rattle.kv_durable_script.proofs.Pouring.{HasPoured}
use Rattle.kv_durable_script.proofs.dumping.pour_entries.Given as goal

abbrev pub invariant-loop-payload : goal.invariant-loop-payload
invariant-loop-payload g l = record {
  within : l.offset + length l.rest ≡ l.at + length l.bytes;
  same : g.K.Output.goes_on l.initial.sink l.sink;
  poured : (entries : List Entry) (rest : List ℕ) → Splits l.framing.seed l.at l.bytes (payloads_of entries) rest → AllByRecursion CanDumpEntry entries
      → HasPoured l.framing.seed l.offset l.rest rest entries (g.K.Output.held l.initial.sink) l.initial.out.items (g.K.Output.held l.sink) l.out.items;
}

abbrev pub decreases-loop-payload : goal.decreases-loop-payload
decreases-loop-payload g l = length l.rest
