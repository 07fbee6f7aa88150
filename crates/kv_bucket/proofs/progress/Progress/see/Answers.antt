use Rattle.std.proofs.Common.{rules}
use Rattle.kv_bucket.proofs.progress.Progress.see.Goals as goal

pub returns-clause-later : goal.returns-clause-later
returns-clause-later g c = search rules

pub returns-clause-seen : goal.returns-clause-seen
returns-clause-seen g c = search rules
