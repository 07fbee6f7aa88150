use Rattle.std.proofs.Common.{◌≡◌, ◌≤◌, ◌<◌, ◌^◌, ◌++◌, ◌∷◌, length, map}
use Rattle.std.specs.Int.{w32, to_be_bytes}
use Rattle.kv_model.specs.Requests.{asked}
use Rattle.kv_journal.specs.Records.{asked_records}
use Rattle.kv_journal.proofs.encode.encode_batch.Given as goal

abbrev pub invariant-loop-request : goal.invariant-loop-request
invariant-loop-request l = record {
  all : l.bytes.items ++ asked_records (map asked l.rest) ≡ to_be_bytes w32 l.loose ++ (10 ∷ asked_records (map asked l.requests));
  some : 5 ≤ length l.bytes.items;
  few : length l.bytes.items < 2 ^ 32;
}

abbrev pub decreases-loop-request : goal.decreases-loop-request
decreases-loop-request l = length l.rest
