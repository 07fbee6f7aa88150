use Rattle.std.proofs.Common.{rules}
use Rattle.kv_run.proofs.running.fail.Goals as goal

pub returns-in-BadBucket-clause-status : goal.returns-in-BadBucket-clause-status
returns-in-BadBucket-clause-status g c = search rules

pub returns-in-BadBucket-clause-told : goal.returns-in-BadBucket-clause-told
returns-in-BadBucket-clause-told g c = search rules

pub returns-in_default : goal.returns-in_default
returns-in_default g c = record { status = search rules; told = search rules }
