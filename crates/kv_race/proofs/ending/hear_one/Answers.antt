use Rattle.std.proofs.Common.{rules}
use Rattle.kv_race.proofs.ending.hear_one.Goals as goal

pub returns-in-Ok-clause-told : goal.returns-in-Ok-clause-told
returns-in-Ok-clause-told g c = search rules
