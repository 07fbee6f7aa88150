use Rattle.std.proofs.Common.{◌≡◌, ◌++◌, [], append-nil, ap, arith, map, sym, ◌∙◌}
use denote.Param.{param}
use denote.Param.Send.{sendable}
use Rattle.std.proofs.Crossing.{crosses}
use Rattle.std.specs.Vec.Iter.{into_iter_items}
use Rattle.std.proofs.lemmas.Grind.{common_steps}
use Rattle.kv_bucket.proofs.Sent.{feed_send}
use Rattle.kv_single.proofs.reply.Reply.TheSendSync as reply
use Rattle.kv_race.proofs.threads.start_watchers.Goals as goal

pub returns-clause-ok : goal.returns-clause-ok
returns-clause-ok g c =
    let watchers = c.loop-feed.watchers in
    let none : into_iter_items c.loop-feed.feed-iterator ≡ [] = grind (arith, common_steps, c.in-None.ensures.steps) in
    sym (append-nil (map (λ h. h.promise.0.value) watchers.items))
    ∙ (ap (λ rest. map (λ h. h.promise.0.value) watchers.items ++ rest) (sym none)
    ∙ (c.loop-feed.invariant ∙ c.into_iter-feed-iterator.ensures.into_iter_gives.0))

pub spawn_with-requires-send-F : goal.spawn_with-requires-send-F
spawn_with-requires-send-F g c κs within =
    let feed = feed_send (param 0 g.row.N) g.N.LiveName c.requires.3 c.requires.2 in
    let rt = c.requires.0 in
    let gate = c.requires.1 in
    search (sendable, crosses) depth 20

pub spawn_with-requires-send-T : goal.spawn_with-requires-send-T
spawn_with-requires-send-T g c κs within =
    let feed = feed_send (param 0 g.row.N) g.N.LiveName c.requires.3 c.requires.2 in
    search (sendable, crosses, reply.the_send) depth 20
