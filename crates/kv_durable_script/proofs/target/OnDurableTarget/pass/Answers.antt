use Rattle.kv_model.specs.State.{after}
use Rattle.kv_model.specs.declared.call.Call.TheVariants as calls
use Rattle.kv_durable_script.proofs.Called.{taken, watches_on}
use Rattle.kv_durable_script.proofs.target.OnDurableTarget.pass.Goals as goal

pub returns-clause-same : goal.returns-clause-same
returns-clause-same g c =
    watches_on g.F.JournalFile.has g.F.JournalFile.usable (λ s. after s (calls.Take c.args.number)) _ _ c.pass.ensures.step (taken c.args.number) c.pass.ensures.journal
