use Rattle.kv_keys.specs.declared.error.KvError.TheVariants.{NoSuchWatch}
use Rattle.kv_model.specs.declared.stopped.Stopped.{Stopped}
use Rattle.kv_model.specs.declared.call.Call.TheVariants as calls
use Rattle.kv_model.specs.Answers.{Ended}
use Rattle.kv_bucket.specs.Keeping.{KeeperState, kept_of}
use Rattle.kv_bucket.proofs.Keeping.{quiet_stop, somewhere_quiet, quiet_ok, quiet_refused, quiet_unchanged}
use Rattle.kv_bucket.proofs.keeper.Keeper.stop.Goals as goal

pub invariant_of-self : goal.invariant_of-self
invariant_of-self g c =
    let was = c.self.inside in
    let old : KeeperState = kept_of was.bucket was.publisher in
    (somewhere_quiet (calls.Stop c.args.number) (λ (stopped : Stopped). Ended stopped.handed) g.N.LiveName.opening.config old c.stop.new.self c.stop.result (quiet_stop c.args.number) c.self.invariant.0 c.stop.ensures.ok c.stop.ensures.unchanged, c.self.invariant.1, c.self.invariant.2)

pub returns-clause-ok : goal.returns-clause-ok
returns-clause-ok g c = quiet_ok (calls.Stop c.args.number) (λ (stopped : Stopped). Ended stopped.handed) c.args.self.now c.self.inside.bucket c.stop.new.self c.self.inside.publisher c.stop.result c.self.view_is (quiet_stop c.args.number) c.stop.ensures.ok

pub returns-clause-refused : goal.returns-clause-refused
returns-clause-refused g c = quiet_refused (calls.Stop c.args.number) c.args.self.now c.self.inside.bucket c.stop.new.self c.self.inside.publisher NoSuchWatch c.stop.result c.self.view_is (quiet_stop c.args.number) c.stop.ensures.refused

pub returns-clause-unchanged : goal.returns-clause-unchanged
returns-clause-unchanged g c = quiet_unchanged c.args.self.now c.self.inside.bucket c.stop.new.self c.self.inside.publisher c.stop.result c.self.view_is c.stop.ensures.unchanged
