-- What a compaction tells of the state that the keeper was at.
use Rattle.std.proofs.Common.{ℕ, Result, Ok, Err}
use Rattle.std.specs.Prelude.{OnOk}
use Rattle.kv_bucket.specs.Keeping.{CompactsSomewhere, IsKeptStep, IsSomewhere, KeeperState}
use Rattle.kv_bucket.proofs.Somewhere.{compacts_somewhere as of_unit}
use Rattle.kv_model.specs.Answers.{Compacted}
use Rattle.kv_model.specs.Configuration.{Configuration}
use Rattle.kv_model.specs.declared.call.Call.TheVariants as calls

pub compacts_somewhere : {A E : Type 0} (config : Configuration) (old : KeeperState) (floor : ℕ) (result : Result A E) (new : KeeperState) → IsSomewhere config old
    → OnOk result (IsKeptStep old (calls.Compact floor) (Compacted floor) new) → OnOk result (CompactsSomewhere config floor)
compacts_somewhere config old floor (Ok done) new some step = of_unit config old floor (Ok tt) new some step
compacts_somewhere config old floor (Err error) new some step = tt
