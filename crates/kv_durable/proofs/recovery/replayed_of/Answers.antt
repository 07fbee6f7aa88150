use Rattle.std.proofs.Common.{sym, subst}
use Rattle.kv_journal.specs.Replays.{IsDamaged}
use Rattle.kv_durable.proofs.recovery.replayed_of.Goals as goal

pub returns-in-Err-Damaged-clause-damaged : goal.returns-in-Err-Damaged-clause-damaged
returns-in-Err-Damaged-clause-damaged c = λ _ before entries rest stands lawful splits.
    c.in-Err-Damaged.ensures.damaged (subst IsDamaged (sym c.in-Err-Damaged.field-0-is) tt) before entries rest stands lawful splits
