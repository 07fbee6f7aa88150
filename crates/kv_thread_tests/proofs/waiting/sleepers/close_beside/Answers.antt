use denote.Param.{param}
use denote.Param.Send.{sendable}
use Rattle.std.proofs.Crossing.{crosses}
use Rattle.kv_bucket.proofs.Sent.{reader_send}
use Rattle.kv_thread_tests.proofs.waiting.sleepers.close_beside.Goals as goal

pub spawn-requires-send-F : goal.spawn-requires-send-F
spawn-requires-send-F g c κs within =
    let held = reader_send (param 0 g.row.N) g.N.LiveName c.type_bounds.send-N c.type_bounds.sync-N in
    let rt = c.type_bounds.send-R in
    search (sendable, crosses) depth 20
