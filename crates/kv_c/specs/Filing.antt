-- The file of a bucket.
use Rattle.std.specs.Prelude.{Bool, ◌||◌}
use Rattle.kv_c.specs.Lending.{never_fails}
use Rattle.kv_c.specs.declared.filed.Filed.{Filed}
use Rattle.kv_c.specs.declared.outbox.Outbox.{Outbox}
use Rattle.kv_durable.specs.Journals as journals
use Rattle.kv_durable.specs.declared.durable.Durable.{Durable}
use Rattle.kv_single.specs.Held.{Bucketed}

-- nothing more is added to it: the shell has failed to write, or it is full
abbrev pub is_stopped : Filed → Bool
is_stopped filed = filed.has_failed || journals.is_stopped never_fails filed.journal.value

-- a bucket and its file, as a durable bucket
abbrev pub durable_of : Bucketed → Filed → Durable Outbox
durable_of bucket filed = record { bucket = bucket; journal = filed.journal.value }
