use Rattle.kv_model.specs.declared.call.Call.TheVariants as calls
use Rattle.kv_model.specs.Answers.{Watching}
use Rattle.kv_bucket.specs.Keeping.{KeeperState, kept_of}
use Rattle.kv_bucket.proofs.Keeping.{quiet_watch, somewhere_quiet}
use Rattle.kv_bucket.proofs.keeper.Keeper.watch.Goals as goal

pub invariant_of-self : goal.invariant_of-self
invariant_of-self g c =
    let was = c.self.inside in
    let old : KeeperState = kept_of was.bucket was.publisher in
    (somewhere_quiet (calls.Watch c.args.filters.now c.args.options) Watching g.N.LiveName.opening.config old c.watch.new.self c.watch.result (quiet_watch c.args.filters.now c.args.options) c.self.invariant.0 c.watch.ensures.ok c.watch.ensures.unchanged, c.self.invariant.1, c.self.invariant.2)
