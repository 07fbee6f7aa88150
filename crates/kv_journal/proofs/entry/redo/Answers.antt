use Rattle.kv_journal.proofs.Redone.{entry_of, entry_redone}
use Rattle.kv_journal.proofs.entry.redo.Goals as goal

pub returns-in-Some-clause-done : goal.returns-in-Some-clause-done
returns-in-Some-clause-done c = λ e.
    let done = c.redo_content.ensures.done e in
    let is = c.in-Some.ensures in
    (entry_of c.in-Some.field-0-0 done.0, entry_redone c.args.payload.now c.in-Some.record.now c.in-Some.field-0-0 done.0 c.args.version.now c.redo_content.new.version is.0 is.1 done.1)
