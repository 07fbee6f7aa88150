use Rattle.std.specs.Prelude.{map}
use Rattle.kv_model.specs.Acceptance.{accept}
use Rattle.kv_model.specs.Requests.{asked}
use Rattle.kv_durable.specs.Durables.{act_of}
use Rattle.kv_model.specs.State.{after}
use Rattle.kv_model.specs.declared.call.Call.TheVariants as calls
use Rattle.kv_journal.specs.Records.{did}
use Rattle.std.proofs.Common.{Err}
use Rattle.kv_durable_script.proofs.Called.{by_rules, called_on, recorded_on}
use Rattle.kv_durable_script.proofs.target.OnDurableTarget.write.Goals as goal

pub returns-in-Ok-clause-same : goal.returns-in-Ok-clause-same
returns-in-Ok-clause-same g c =
    recorded_on g.F.JournalFile.has g.F.JournalFile.usable (λ state. after state (calls.Write c.args.request.now)) (λ state. map did (act_of (accept state.config (asked c.args.request.now) state.acts))) _ _ c.in-Ok.ensures.recorded (λ is. let no : ⊥ = cc (c.in-Ok.ensures.stopped is).0 in no) c.in-Ok.ensures.same.1

pub returns-in-Err-clause-same : goal.returns-in-Err-clause-same
returns-in-Err-clause-same g c =
    called_on g.F.JournalFile.has g.F.JournalFile.usable (λ state. after state (calls.Write c.args.request.now)) (λ state. map did (act_of (accept state.config (asked c.args.request.now) state.acts))) _ _ (Err c.in-Err.error) tt c.in-Err.ensures.untouched c.in-Err.ensures.unchanged c.in-Err.ensures.handed c.in-Err.ensures.stops c.in-Err.ensures.stopped
    c.in-Err.ensures.no_other c.in-Err.ensures.same.1

pub returns-in-Err-clause-refused : goal.returns-in-Err-clause-refused
returns-in-Err-clause-refused g c = λ other state r.
    rw c.refusal_of.ensures (c.in-Err.ensures.refused _ (by_rules c.in-Err.error (rw c.refusal_of.ensures at other)) state r)
