use Rattle.std.proofs.Common.{take_all, ◌∙◌}
use denote.Param.{param}
use denote.Param.Send.{sendable}
use Rattle.std.proofs.Crossing.{crosses}
use Rattle.kv_model.proofs.request.Request.TheSendSync as request
use Rattle.kv_bucket.proofs.Sent.{live_sync}
use Rattle.kv_race.proofs.threads.start_workers.Goals as goal

pub returns-clause-ok : goal.returns-clause-ok
returns-clause-ok g c =
    c.loop-worker.invariant ∙ take_all c.loop-worker.worker c.args.scripts.now c.loop-worker-test.false

pub spawn_with-requires-send-F : goal.spawn_with-requires-send-F
spawn_with-requires-send-F g c κs within =
    let live = live_sync (param 0 g.row.N) g.N.LiveName c.requires.3 c.requires.2 in
    let rt = c.requires.0 in
    let gate = c.requires.1 in
    search (sendable, crosses, request.the_sync) depth 20
