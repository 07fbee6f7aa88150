use Rattle.std.proofs.Common.{Err}
use Rattle.kv_durable_script.proofs.Called.{called_on}
use Rattle.kv_durable_script.proofs.Checkpointed.{compacted, compaction, shrunk_on}
use Rattle.kv_durable_script.proofs.shrinking.ReplacingCompacts.compact.Goals as goal

pub returns-clause-same : goal.returns-clause-same
returns-clause-same g c =
    let made = c.in_ok-compact_and_checkpoint.ensures in
    shrunk_on g.F.JournalFile.has g.F.JournalFile.usable c.args.floor _ _ made.ok made.sync (λ is. let no : ⊥ = cc (made.stopped is).0 in no) _ _ made.left made.replaced made.goes_on made.either

pub returns-in_err-compact_and_checkpoint-clause-same : goal.returns-in_err-compact_and_checkpoint-clause-same
returns-in_err-compact_and_checkpoint-clause-same g c =
    let refused = c.in_err-compact_and_checkpoint.ensures in
    called_on g.F.JournalFile.has g.F.JournalFile.usable (compacted c.args.floor) (compaction c.args.floor) _ _ (Err _) tt refused.untouched refused.unchanged refused.handed refused.stops refused.stopped
    refused.no_other refused.sync
