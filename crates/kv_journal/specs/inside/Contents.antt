-- What is told of a checkpoint.
use Rattle.std.specs.Prelude.{ℕ, List, map}
use Rattle.kv_model.specs.Acts.{Write}
use Rattle.kv_model.specs.Requests.{asked, write_for}
use Rattle.kv_model.specs.declared.request.Request.{Request}
use Rattle.kv_journal.specs.Checkpoints.{Checkpoint}
use Rattle.kv_journal.specs.declared.contents.Contents.{Contents}

-- the writes that these requests ask for, each at its revision
abbrev pub writes_told : List (ℕ × Request) → List Write
writes_told told = map (λ t. write_for (asked t.1) t.0) told

-- the checkpoint with these writes and numbers
abbrev pub checkpoint_told : Contents → Checkpoint
checkpoint_told c = record {
  writes = writes_told c.writes.items;
  last = c.numbers.last;
  values = c.numbers.values;
  floor = c.numbers.floor;
  sealed = c.numbers.sealed;
}
