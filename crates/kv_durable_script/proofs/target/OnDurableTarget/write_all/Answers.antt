use Rattle.std.specs.Prelude.{map}
use Rattle.std.proofs.Common.{Ok, Err}
use Rattle.kv_model.specs.Batches.{accept_all, after_batch}
use Rattle.kv_model.specs.Requests.{asked}
use Rattle.kv_durable.specs.Durables.{batch_of}
use Rattle.kv_durable_script.proofs.Called.{batch_by_rules, batched_on}
use Rattle.kv_durable_script.proofs.target.OnDurableTarget.write_all.Goals as goal

pub returns-in-Ok-clause-same : goal.returns-in-Ok-clause-same
returns-in-Ok-clause-same g c =
    batched_on g.F.JournalFile.has g.F.JournalFile.usable (λ state. after_batch state (accept_all state.config (map asked c.args.requests.now) state.acts))
    (λ state. batch_of (accept_all state.config (map asked c.args.requests.now) state.acts)) _ _ c.args.requests.now (Ok c.in-Ok.first)
    c.in-Ok.ensures.none c.in-Ok.ensures.recorded tt tt tt (λ no. let none : ⊥ = cc no in absurd none) c.in-Ok.ensures.stopped c.in-Ok.ensures.same.1

pub returns-in-Err-clause-same : goal.returns-in-Err-clause-same
returns-in-Err-clause-same g c =
    batched_on g.F.JournalFile.has g.F.JournalFile.usable (λ state. after_batch state (accept_all state.config (map asked c.args.requests.now) state.acts))
    (λ state. batch_of (accept_all state.config (map asked c.args.requests.now) state.acts)) _ _ c.args.requests.now (Err c.in-Err.error)
    c.in-Err.ensures.none tt c.in-Err.ensures.untouched c.in-Err.ensures.unchanged c.in-Err.ensures.handed c.in-Err.ensures.stops c.in-Err.ensures.stopped c.in-Err.ensures.same.1

pub returns-in-Err-clause-refused : goal.returns-in-Err-clause-refused
returns-in-Err-clause-refused g c = λ other state r.
    rw c.batch_refusal_of.ensures (c.in-Err.ensures.refused _ (batch_by_rules c.in-Err.error (rw c.batch_refusal_of.ensures at other)) state r)
