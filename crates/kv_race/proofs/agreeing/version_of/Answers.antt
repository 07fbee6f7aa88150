use Rattle.std.proofs.Common.{◌≡◌, inr, cond, ap, ◌∙◌}
use Rattle.std.proofs.lemmas.Result.{err_from_is_err_and}
use Rattle.kv_keys.specs.declared.error.KvError.TheVariants.{OutOfMemory, BadFilter}
use Rattle.kv_race.proofs.EveryKey.{every_key}
use Rattle.kv_race.proofs.agreeing.version_of.Goals as goal

pub returns-in_err-filters-clause-err : goal.returns-in_err-filters-clause-err
returns-in_err-filters-clause-err g c =
    let p = err_from_is_err_and c.from_residual.result c.from_residual.ensures.1 in
    let none : c.in_err-filters.field-0.0 ≡ OutOfMemory = c.in_err-filters.ensures.err ∙ ap (λ b. cond b OutOfMemory BadFilter) every_key in
    rw (p.1, p.2) (inr none)
