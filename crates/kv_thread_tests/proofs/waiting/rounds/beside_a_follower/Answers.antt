use denote.Param.{param}
use denote.Param.Send.{sendable}
use Rattle.std.proofs.Crossing.{crosses}
use Rattle.kv_bucket.proofs.Sent.{live_sync}
use Rattle.kv_thread_tests.proofs.waiting.rounds.beside_a_follower.Goals as goal

pub beside-requires-send-F : goal.beside-requires-send-F
beside-requires-send-F g c κs within =
    let live = live_sync (param 0 g.row.N) g.N.LiveName c.type_bounds.send-N c.type_bounds.sync-N in
    let rt = c.type_bounds.sync-R in
    search (sendable, crosses) depth 20
