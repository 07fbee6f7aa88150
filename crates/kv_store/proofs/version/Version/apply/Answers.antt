use Rattle.std.proofs.Common.{refl}
use Rattle.kv_model.specs.Requests.{asked}
use Rattle.kv_store.proofs.Standings.{stands_after}
use Rattle.kv_store.proofs.version.Version.apply.Goals as goal

pub returns-clause-ok : goal.returns-clause-ok
returns-clause-ok c = λ acts s.
    let w = c.in_ok-accepted.accepted.write in
    let more = rw c.in_ok-next.ensures at c.in_ok-add.ensures.ok in
    stands_after acts c.args.self.now _ (asked c.args.request.now) w c.args.self.now.last refl s (c.in_ok-accepted.ensures.ok acts s) c.in_ok-accepted.ensures.write c.in_ok-accepted.ensures.key more
