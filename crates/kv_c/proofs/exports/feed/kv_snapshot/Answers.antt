use Rattle.std.proofs.Common.{rules}
use Rattle.kv_c.proofs.exports.feed.kv_snapshot.Goals as goal

pub returns-clause-unchanged : goal.returns-clause-unchanged
returns-clause-unchanged c = search rules
