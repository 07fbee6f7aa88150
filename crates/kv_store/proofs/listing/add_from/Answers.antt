use Rattle.std.proofs.Common.{arith}
use Rattle.std.proofs.lemmas.Grind.{common_steps}
use Rattle.kv_store.proofs.listing.add_from.Goals as goal

pub loop-revision-preserved : goal.loop-revision-preserved
loop-revision-preserved c = grind (arith, common_steps)
