use Rattle.kv_model.specs.Answers.{Ended}
use Rattle.kv_model.specs.declared.call.Call.TheVariants as calls
use Rattle.kv_model.specs.declared.stopped.Stopped.{Stopped}
use Rattle.kv_durable_script.proofs.Called.{stepped_on, stopped}
use Rattle.kv_durable_script.proofs.target.OnDurableTarget.stop.Goals as goal

pub returns-clause-same : goal.returns-clause-same
returns-clause-same g c =
    stepped_on g.F.JournalFile.has g.F.JournalFile.usable c.stop.result (calls.Stop c.args.number) (λ (ended : Stopped). Ended ended.handed) _ _ c.stop.ensures.ok c.stop.ensures.unchanged
    (stopped c.args.number) c.stop.ensures.journal
