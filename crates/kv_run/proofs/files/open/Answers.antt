use Rattle.kv_run.proofs.FileEnds.{unbegun}
use Rattle.kv_run.proofs.files.open.Goals as goal

pub returns-in-Err-clause-err : goal.returns-in-Err-clause-err
returns-in-Err-clause-err g c = unbegun c.args.config.now c.in-Err.refused.error c.requires.legal.0 c.in-Err.ensures.refused
