use Rattle.std.proofs.lemmas.Result.{err_from_is_err_and}
use Rattle.kv_race.proofs.ending.end_watch.Goals as goal

pub returns-in_err-last-clause-err : goal.returns-in_err-last-clause-err
returns-in_err-last-clause-err g c =
    let p = err_from_is_err_and c.from_residual.result c.from_residual.ensures.1 in
    rw (p.1, p.2) c.in_err-last.ensures.err
