use Rattle.std.proofs.Common.{[], ◌∷◌, ◌++◌, subst}
use Rattle.kv_model.specs.Acts.{Wrote, Write}
use Rattle.kv_model.specs.Requests.{asked}
use Rattle.kv_store.specs.Standing.{StandsFor}
use Rattle.kv_journal.proofs.Accepting.{next_is}
use Rattle.kv_journal.proofs.entry.redo_write.Goals as goal

pub returns-in-Ok-clause-done : goal.returns-in-Ok-clause-done
returns-in-Ok-clause-done c = λ _ acts stands.
    let o = c.in-Ok.ensures.ok acts stands in
    subst (λ (w : Write). StandsFor (acts ++ Wrote w ∷ []) c.write.new.self)
    (next_is c.args.version.now.config (asked c.args.request.now) acts o.0 c.args.version.now.last stands.last o.1.0) o.1.1
