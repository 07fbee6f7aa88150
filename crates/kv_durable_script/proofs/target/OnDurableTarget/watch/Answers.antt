use Rattle.kv_model.specs.Answers.{Watching}
use Rattle.kv_model.specs.declared.call.Call.TheVariants as calls
use Rattle.kv_durable_script.proofs.Called.{stepped_on, watched}
use Rattle.kv_durable_script.proofs.target.OnDurableTarget.watch.Goals as goal

pub returns-clause-same : goal.returns-clause-same
returns-clause-same g c =
    stepped_on g.F.JournalFile.has g.F.JournalFile.usable c.watch.result (calls.Watch c.args.filters.now c.args.options) (λ number. Watching number) _ _ c.watch.ensures.ok c.watch.ensures.unchanged
    (watched c.args.filters.now c.args.options) c.watch.ensures.journal
