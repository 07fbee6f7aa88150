use Rattle.std.proofs.Common.{rules}
use Rattle.kv_race.proofs.racing.report_of.Goals as goal

pub returns-clause-numbered : goal.returns-clause-numbered
returns-clause-numbered g c = search rules
