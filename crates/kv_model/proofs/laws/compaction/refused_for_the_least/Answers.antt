use Rattle.kv_model.proofs.Behind.{refused_for}
use Rattle.kv_model.proofs.laws.compaction.refused_for_the_least.Goals as goal

pub returns : goal.returns
returns c = λ state floor number refused. refused_for floor number state refused
