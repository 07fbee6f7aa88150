use Rattle.std.proofs.Common.{[], ◌∷◌}
use Rattle.kv_model.specs.Acts.{Seal}
use Rattle.kv_model.specs.State.{after}
use Rattle.kv_model.specs.declared.call.Call.TheVariants as calls
use Rattle.kv_journal.specs.Records.{did}
use Rattle.std.proofs.Common.{Err, ◌∙◌}
use Rattle.kv_durable_script.proofs.Called.{called_on, only_memory, recorded_on}
use Rattle.kv_durable_script.proofs.target.OnDurableTarget.seal.Goals as goal

pub returns-in-Ok-clause-same : goal.returns-in-Ok-clause-same
returns-in-Ok-clause-same g c =
    recorded_on g.F.JournalFile.has g.F.JournalFile.usable (λ state. after state calls.Seal) (λ _. did Seal ∷ []) _ _ c.in-Ok.ensures.recorded (λ is. let no : ⊥ = cc (c.in-Ok.ensures.stopped is).0 in no) c.in-Ok.ensures.same.1

pub returns-in-Err-clause-same : goal.returns-in-Err-clause-same
returns-in-Err-clause-same g c =
    called_on g.F.JournalFile.has g.F.JournalFile.usable (λ state. after state calls.Seal) (λ _. did Seal ∷ []) _ _ (Err c.in-Err.error) tt c.in-Err.ensures.untouched c.in-Err.ensures.unchanged c.in-Err.ensures.handed c.in-Err.ensures.stops c.in-Err.ensures.stopped
    c.in-Err.ensures.no_other c.in-Err.ensures.same.1

pub returns-in-Err-clause-err : goal.returns-in-Err-clause-err
returns-in-Err-clause-err g c = c.refusal_of.ensures ∙ only_memory c.in-Err.error c.in-Err.ensures.refused
