use Rattle.kv_durable_live.proofs.Living.{batch_goes_on, compacted_goes_on, not_replaced_goes_on, recorded_goes_on, replaced_goes_on, synced_goes_on}
use Rattle.kv_durable_live.proofs.laws.each_call_goes_on.Goals as goal

pub returns-clause-recorded : goal.returns-clause-recorded
returns-clause-recorded g c = recorded_goes_on g.F.JournalFile.has g.F.JournalFile.usable

pub returns-clause-batched : goal.returns-clause-batched
returns-clause-batched g c = batch_goes_on g.F.JournalFile.has g.F.JournalFile.usable

pub returns-clause-synced : goal.returns-clause-synced
returns-clause-synced g c = synced_goes_on g.F.JournalFile.has g.F.JournalFile.usable

pub returns-clause-replaced : goal.returns-clause-replaced
returns-clause-replaced g c = replaced_goes_on g.F.JournalFile.has g.F.JournalFile.usable

pub returns-clause-compacted : goal.returns-clause-compacted
returns-clause-compacted g c = compacted_goes_on g.F.JournalFile.has g.F.JournalFile.usable

pub returns-clause-not_replaced : goal.returns-clause-not_replaced
returns-clause-not_replaced g c = not_replaced_goes_on g.F.JournalFile.has g.F.JournalFile.usable
