use Rattle.std.proofs.Common.{rules}
use Rattle.kv_bucket.proofs.cached.Cached.go_on.Goals as goal

pub returns-clause-ok : goal.returns-clause-ok
returns-clause-ok g c = search rules
