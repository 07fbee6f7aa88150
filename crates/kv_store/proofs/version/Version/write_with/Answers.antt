use Rattle.std.proofs.Common.{refl}
use Rattle.kv_model.specs.Requests.{asked}
use Rattle.kv_store.proofs.Standings.{stands_after}
use Rattle.kv_store.proofs.version.Version.write_with.Goals as goal

pub returns-clause-ok : goal.returns-clause-ok
returns-clause-ok g c = λ acts s.
    stands_after acts c.args.self.now c.add.new.self (asked c.args.request.now) c.in_ok-accepted.accepted.write c.args.self.now.last refl s (c.in_ok-accepted.ensures.ok acts s) c.in_ok-accepted.ensures.write c.in_ok-accepted.ensures.key c.in_ok-add.ensures.ok
