use Rattle.kv_model.proofs.Behind.{given_compact}
use Rattle.kv_model.proofs.laws.compaction.given_stays.Goals as goal

pub returns : goal.returns
returns c = given_compact
