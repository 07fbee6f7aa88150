use Rattle.kv_durable_script.proofs.Called.{called_on}
use Rattle.kv_durable_script.proofs.Checkpointed.{compacted, compaction}
use Rattle.kv_durable_script.proofs.shrinking.InPlaceCompacts.compact.Goals as goal

pub returns-clause-same : goal.returns-clause-same
returns-clause-same g c =
    called_on g.F.JournalFile.has g.F.JournalFile.usable (compacted c.args.floor) (compaction c.args.floor) _ _ c.compact.result c.compact.ensures.recorded c.compact.ensures.untouched c.compact.ensures.unchanged c.compact.ensures.handed c.compact.ensures.stops
    c.compact.ensures.stopped c.compact.ensures.no_other c.compact.ensures.same.1
