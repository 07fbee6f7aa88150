use Rattle.std.proofs.Common.{All, List, map, subst, sym, ◌∙◌, ◌≡◌}
use Rattle.std.specs.List.{AllZip}
use Rattle.kv_model.specs.Requests.{asked}
use Rattle.kv_race.specs.Telling.{HasLast, IsEnded, IsShown, reply_of}
use Rattle.kv_race.proofs.Raced.{raced}
use Rattle.kv_race.proofs.Zips.{zip_each}
use Rattle.kv_race.proofs.racing.run.Goals as goal

pub report_of-requires : goal.report_of-requires
report_of-requires g c =
    let config = g.N.LiveName.opening.config in
    let each = zip_each _ (λ end. IsShown config (map (λ some. some.items) c.deref.result.now) end.reader.seen end.last) (λ one end ends. ends.shown) c.in_ok-worked.watched.items c.in_ok-ended.ended.items c.in_ok-ended.ensures.ok in
    subst (λ (all : List _). All (λ end. IsShown config (map (λ some. some.items) all) end.reader.seen end.last) c.in_ok-ended.ended.items) (c.deref.ensures.value ∙ sym c.deref-2.ensures.value) each

pub returns-clause-ok : goal.returns-clause-ok
returns-clause-ok g c =
    let config = g.N.LiveName.opening.config in
    let answers = c.in_ok-answers.answers.items in
    let ended = c.in_ok-ended.ended.items in
    let report = c.in_ok-report.report in
    let one = c.deref.ensures.value in
    let two = c.deref-2.ensures.value in
    let ends = subst (λ (all : List _). AllZip (λ watched end. IsEnded config (map (λ some. some.items) all) watched.feed watched.seen.items end.reader.seen end.last end.seen.items) c.in_ok-worked.watched.items ended) one c.in_ok-ended.ensures.ok in
    let last = subst (λ (all : List _). HasLast config (map (λ some. some.items) all) (map (λ end. end.reader.seen) ended) report.last) two c.in_ok-report.ensures.last in
    let same = subst (λ (all : List _). map (λ some. some.items) report.replies.items ≡ map (λ some. map reply_of some.items) all) two c.in_ok-report.ensures.replies in
    raced config (λ script. map asked script.items) (λ some. some.items) (λ some. some.items) (λ watched. watched.feed) (λ watched. watched.seen.items) (λ end. end.reader.seen) (λ end. end.last) (λ end. end.seen.items) (λ seen. seen.items)
    c.args.scripts.now c.args.watches.now c.in_ok-feeds.feeds.items c.in_ok-worked.worked.items c.in_ok-worked.watched.items answers ended report.seen.items report.last report.replies.items
    c.in_ok-feeds.ensures.ok c.in_ok-worked.ensures.workers c.in_ok-answers.ensures.ok c.in_ok-worked.ensures.watchers ends last c.in_ok-report.ensures.numbered same c.in_ok-report.ensures.seen
