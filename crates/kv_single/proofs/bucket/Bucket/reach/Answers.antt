use Rattle.kv_model.proofs.Storing.{floor_within}
use Rattle.kv_single.proofs.Least.{reach_allowed, reach_highest}
use Rattle.kv_single.proofs.bucket.Bucket.reach.Goals as goal

pub returns-clause-allowed : goal.returns-clause-allowed
returns-clause-allowed c = λ state r.
    reach_allowed state c.args.self.now r c.least_reach.result (c.least_reach.ensures.within state r) (c.least_reach.ensures.reach state r) (floor_within c.args.self.now.version.config state.acts r.version.lawful)

pub returns-clause-highest : goal.returns-clause-highest
returns-clause-highest c = λ state r.
    reach_highest state c.args.self.now r c.least_reach.result (c.least_reach.ensures.within state r) (c.least_reach.ensures.reach state r)
