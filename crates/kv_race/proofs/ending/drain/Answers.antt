use Rattle.std.proofs.Common.{◌≤◌, ◌∙◌, refl, inr, length}
use Rattle.std.proofs.lemmas.Result.{IfErr-weaker, IfOk-weaker, err_from_is_err_and}
use Rattle.kv_bucket.specs.FeedState.{given_by}
use Rattle.kv_bucket.specs.ReaderState.{IsUnread}
use Rattle.kv_race.specs.Telling.{IsEnded}
use Rattle.kv_race.proofs.Ended.{ended}
use Rattle.kv_race.proofs.ending.drain.Goals as goal

pub returns-in_err-refresh-clause-err : goal.returns-in_err-refresh-clause-err
returns-in_err-refresh-clause-err g c =
    let p = err_from_is_err_and c.from_residual.result c.from_residual.ensures.1 in
    rw (p.1, p.2) c.in_err-refresh.ensures.refused.0

pub returns-in_err-collect-clause-err : goal.returns-in_err-collect-clause-err
returns-in_err-collect-clause-err g c =
    let p = err_from_is_err_and c.from_residual-in_err-collect.result c.from_residual-in_err-collect.ensures.1 in
    rw (p.1, p.2) (inr c.in_err-collect.ensures.err)

pub returns-clause-err : goal.returns-clause-err
returns-clause-err g c = IfErr-weaker c.version.result _ IsUnread (λ e none. inr none) c.version.ensures.err

pub returns-clause-ok : goal.returns-clause-ok
returns-clause-ok g c =
    let config = g.N.LiveName.opening.config in
    let heard = c.hear_all.new.feed in
    let went = c.refresh.new.feed in
    let last = c.collect.new.feed in
    let within : heard.handed ≤ length (given_by heard) = rw c.handed.ensures.value at c.handed.ensures.within in
    IfOk-weaker c.version.result _ (λ version. IsEnded config _ c.args.feed.now c.args.seen.now.items last.reader.seen version c.collect.new.seen.items)
    (λ version shows. ended config _ c.args.feed.now heard went last last.reader.seen
    c.hear_all.ensures.heard c.hear_all.ensures.told c.in_ok-refresh.ensures.ok c.collect.ensures.place refl
    c.args.seen.now.items c.collect.new.seen.items version (shows.0, shows.1 ∙ c.version.ensures.config) c.handed.ensures.prefix within c.collect.ensures.watch c.collect.ensures.seen c.in_ok-collect.ensures.all)
    c.version.ensures.ok
