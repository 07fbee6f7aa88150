use Rattle.std.proofs.Common.{inr, ◌∙◌}
use Rattle.std.proofs.lemmas.Result.{IfErr-weaker, IfOk-weaker, err_from_is_err_and}
use Rattle.kv_bucket.specs.ReaderState.{IsUnread}
use Rattle.kv_race.specs.Telling.{HasLast}
use Rattle.kv_race.proofs.Ended.{last_shown, shown}
use Rattle.kv_race.proofs.agreeing.last_shown.Goals as goal

pub returns-in_err-refresh-clause-err : goal.returns-in_err-refresh-clause-err
returns-in_err-refresh-clause-err g c =
    let p = err_from_is_err_and c.from_residual.result c.from_residual.ensures.1 in
    rw (p.1, p.2) c.in_err-refresh.ensures.refused.0

pub returns-clause-err : goal.returns-clause-err
returns-clause-err g c = IfErr-weaker c.version.result _ IsUnread (λ e none. inr none) c.version.ensures.err

pub returns-clause-ok : goal.returns-clause-ok
returns-clause-ok g c =
    let config = g.N.LiveName.opening.config in
    let heard = c.hear_all.new.feed in
    let went = c.refresh.new.feed in
    IfOk-weaker c.version.result _ (HasLast config _ _)
    (λ version shows. last_shown config _ went.acts version (shown config _ heard went version c.hear_all.ensures.told c.in_ok-refresh.ensures.ok (shows.0, shows.1 ∙ c.version.ensures.config)))
    c.version.ensures.ok
