use Rattle.std.proofs.Common.{◌≡◌, ◌≤◌, ◌+◌, List, length}
use Rattle.std.specs.List.{AllByRecursion}
use Rattle.kv_model.specs.Acts.{Act}
use Rattle.kv_journal.specs.Records.{act_records}
use Rattle.kv_durable_script.specs.inside.Dumpable.{CanDumpAct}
use Rattle.kv_durable_script.proofs.Telling.{HasCounted}
use Rattle.kv_durable_script.proofs.lines.writes_in.Given as goal

abbrev pub invariant-loop-part : goal.invariant-loop-part
invariant-loop-part l = record {
  within : l.count + length l.rest ≤ length l.bytes;
  counted : (acts : List Act) → act_records acts ≡ l.bytes → AllByRecursion CanDumpAct acts → HasCounted acts l.rest l.count;
}

abbrev pub decreases-loop-part : goal.decreases-loop-part
decreases-loop-part l = length l.rest
