use Rattle.std.proofs.Common.{sym, subst}
use Rattle.std.proofs.lemmas.List.{nil_from_length}
use Rattle.kv_single.proofs.Batching.{none_done}
use Rattle.kv_store.specs.Standing.{StandsFor}
use Rattle.kv_durable.proofs.durable.Durable.write_all.Goals as goal

pub returns-in-None-clause-ok : goal.returns-in-None-clause-ok
returns-in-None-clause-ok g c =
    none_done c.args.self.now.bucket c.args.requests.now c.revision.result (nil_from_length c.args.requests.now c.in-None.ensures.cases) (λ acts stands. c.revision.ensures.acts acts (subst (λ v. StandsFor acts v) (sym (c.version.ensures.value)) stands))
