use Rattle.std.proofs.Common.{◌≡◌, ◌≤◌, IfOk, arith, length, map, refl, vec_len}
use Rattle.std.specs.List.{AllZip}
use Rattle.kv_model.specs.Requests.{asked}
use Rattle.kv_race.specs.Telling.{IsFollowed, IsTold}
use Rattle.kv_race.proofs.Zips.{zip_kept}
use Rattle.kv_race.proofs.threads.join_all.Goals as goal

pub returns-clause-workers : goal.returns-clause-workers
returns-clause-workers g c =
    let config = g.N.LiveName.opening.config in
    let workers = c.args.workers in
    let worked = c.in_ok-worked.worked in
    let all_joined : length worked.items ≡ length workers.items = omega (arith, c.in_ok-worked.ensures.len) in
    let each_worker : length workers.items ≤ vec_len workers = omega arith in
    zip_kept _ (λ p. p.0.value) (λ script one. IfOk one (λ answers. AllZip (IsTold config) (map asked script.items) answers.items)) _ workers.items worked.items (vec_len workers)
    refl all_joined each_worker c.in_ok-worked.ensures.each (λ p r kept. kept)

pub returns-clause-watchers : goal.returns-clause-watchers
returns-clause-watchers g c =
    let watchers = c.args.watchers in
    let watched = c.in_ok-watched.watched in
    let all_followed : length watched.items ≡ length watchers.items = omega (arith, c.in_ok-watched.ensures.len) in
    let each_watcher : length watchers.items ≤ vec_len watchers = omega arith in
    zip_kept _ (λ p. p.0.value) (λ feed one. IsFollowed feed one.feed one.seen.items) _ watchers.items watched.items (vec_len watchers)
    refl all_followed each_watcher c.in_ok-watched.ensures.each (λ p r kept. kept)
