use Rattle.kv_journal.specs.Records.{did}
use Rattle.kv_journal.proofs.Together.{act_redone}
use Rattle.kv_journal.proofs.entry.redo_act.Goals as goal

pub returns-clause-done : goal.returns-clause-done
returns-clause-done c = λ e.
    let done = c.redo_record.ensures.done e in
    act_redone c.args.bytes.now done.0 c.args.version.now c.redo_record.new.version (c.tells_act.ensures.yes c.if-not-tells_act.false) done.1

pub returns-clause-not : goal.returns-clause-not
returns-clause-not c = λ e acts stands act. c.redo_record.ensures.not e acts stands (did act)
