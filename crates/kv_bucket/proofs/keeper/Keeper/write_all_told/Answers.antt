use Rattle.kv_bucket.proofs.Batching.{none_kept}
use Rattle.kv_bucket.proofs.keeper.Keeper.write_all_told.Goals as goal

pub returns-in-None-clause-ok : goal.returns-in-None-clause-ok
returns-in-None-clause-ok g c =
    (none_kept g.N.LiveName.opening.config c.self.inside.bucket c.self.inside.publisher c.args.requests.now c.revision.result c.args.self.now c.version.result.now c.self.invariant.0 c.self.view_is c.version.ensures.value c.in-None.ensures.cases c.revision.ensures.acts).0
