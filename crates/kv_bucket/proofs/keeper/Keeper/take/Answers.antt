use Rattle.std.proofs.Common.{refl}
use Rattle.kv_keys.specs.declared.error.KvError.TheVariants.{NoSuchWatch}
use Rattle.kv_watch.specs.declared.item.Taken.{Taken}
use Rattle.kv_watch.specs.Taking.{item_taken}
use Rattle.kv_model.specs.declared.call.Call.TheVariants as calls
use Rattle.kv_model.specs.Answers.{answer_item}
use Rattle.kv_bucket.specs.Keeping.{KeeperState, kept_of}
use Rattle.kv_bucket.proofs.Keeping.{quiet_take, somewhere_taken, quiet_taken, answers_ok, answers_refused}
use Rattle.kv_bucket.proofs.keeper.Keeper.take.Goals as goal

pub invariant_of-self : goal.invariant_of-self
invariant_of-self g c =
    let was = c.self.inside in
    let old : KeeperState = kept_of was.bucket was.publisher in
    (somewhere_taken (calls.Take c.args.number) (λ (taken : Taken). answer_item (item_taken taken)) g.N.LiveName.opening.config old c.take.follows.lender-at-none c.take.result (quiet_take c.args.number) c.self.invariant.0 c.take.follows.holds-at-none, c.self.invariant.1, c.self.invariant.2)

pub returns : goal.returns
returns g c =
    let call = calls.Take c.args.number in
    let answer = λ (taken : Taken). answer_item (item_taken taken) in
    let was = c.self.inside in
    let left = c.take.follows.lender-at-none in (
      (refl, λ _. tt, (quiet_taken call answer c.args.self.now was.bucket left was.publisher c.take.result c.self.view_is (quiet_take c.args.number) c.take.follows.holds-at-none)),
      record {
        after = tt;
        ok = answers_ok call answer c.args.self.now was.bucket was.publisher c.take.result c.self.view_is c.take.ensures.ok;
        refused = answers_refused call c.args.self.now was.bucket was.publisher NoSuchWatch c.take.result c.self.view_is c.take.ensures.refused;
      },
    )
