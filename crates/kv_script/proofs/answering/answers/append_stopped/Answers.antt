use Rattle.kv_script.proofs.Lines.{stopped_line}
use Rattle.kv_script.proofs.answering.answers.append_stopped.Goals as goal

pub returns-clause-ok : goal.returns-clause-ok
returns-clause-ok c = rw (stopped_line c.args.watch c.args.handed) at c.append_object.ensures.ok
