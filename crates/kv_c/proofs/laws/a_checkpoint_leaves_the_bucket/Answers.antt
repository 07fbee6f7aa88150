use Rattle.kv_c.proofs.Checkpointed.{given_up, goes_on, kept}
use Rattle.kv_c.proofs.laws.a_checkpoint_leaves_the_bucket.Goals as goal

pub returns-clause-settled : goal.returns-clause-settled
returns-clause-settled c = λ seed old mid new told makes settles. goes_on seed old mid new makes told settles

pub returns-clause-given_up : goal.returns-clause-given_up
returns-clause-given_up c = λ seed old mid new makes gives. given_up seed old mid new makes gives

pub returns-clause-kept : goal.returns-clause-kept
returns-clause-kept c = kept
