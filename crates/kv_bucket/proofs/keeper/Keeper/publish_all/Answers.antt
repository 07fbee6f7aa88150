use Rattle.kv_bucket.proofs.Batching.{all_each}
use Rattle.kv_bucket.proofs.keeper.Keeper.publish_all.Goals as goal

pub publish_all-step-requires-clause-each : goal.publish_all-step-requires-clause-each
publish_all-step-requires-clause-each g c =
    all_each g.N.LiveName.opening.config c.args.self.now c.self.inside.bucket c.self.inside.publisher c.args.requests.now c.args.prepared c.self.view_is c.requires c.into_parts-first.result.0 c.into_parts-first.ensures.0
