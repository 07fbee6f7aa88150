use Rattle.std.proofs.Common.{Err, ap}
use Rattle.kv_durable.proofs.recovery.begun_of.Goals as goal

pub returns-in-Err-NoJournal-clause-damaged : goal.returns-in-Err-NoJournal-clause-damaged
returns-in-Err-NoJournal-clause-damaged c = λ _. c.in-Err-NoJournal.ensures.none (ap Err c.in-Err-NoJournal.field-0-is)
