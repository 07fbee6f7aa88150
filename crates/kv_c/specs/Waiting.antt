-- A call that was made on a bucket with a file, and waits for the shell.
use Rattle.std.specs.Prelude.{ℕ, Bool, List, Option, Some, None}
use Rattle.kv_c.specs.declared.filed.Filed.{Filed}
use Rattle.kv_c.specs.declared.filed.Syncs.{Syncs}
use Rattle.kv_model.specs.declared.call.Call.{Call}
use Rattle.kv_single.specs.Batches.{LeadThere}
use Rattle.kv_single.specs.Held.{Bucketed}
use Rattle.kv_store.specs.Stored.{Stored}

-- the bucket before the call, the version that the call leads to, the file with what the call adds, and of a checkpoint the file
-- whose place that one takes; what the shell writes, where and when it syncs; and what the call answers
pub record Waiting : Type 0 where
  pub bucket : Bucketed
  pub next : Option Stored
  pub filed : Filed
  pub former : Option Filed
  pub bytes : List ℕ
  pub at : ℕ
  pub syncs : Syncs
  pub told : ℕ
  -- nothing was loose before the call, and the shell syncs behind it
  pub joins : Bool

-- a bucket goes on to a version, if there is one
abbrev pub gone_on : Bucketed → Option Stored → Bucketed
gone_on bucket None = bucket
gone_on bucket (Some version) = record bucket { version = version }

-- the bucket behind the call
abbrev pub bucket_behind : Waiting → Bucketed
bucket_behind waiting = gone_on waiting.bucket waiting.next

-- calls of the model lead to that version
abbrev pub Leads : Bucketed → Option Stored → Type 0
Leads bucket next = (calls : List Call) × LeadThere calls bucket (gone_on bucket next)
