use Rattle.std.proofs.Common.{sym, ap}
use Rattle.kv_model.specs.Given.{ending}
use Rattle.kv_watch.proofs.opening.owes_marker.Goals as goal

pub returns-in-Updates : goal.returns-in-Updates
returns-in-Updates c = sym (ap ending c.in-Updates.is)
