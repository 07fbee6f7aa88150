use denote.Param.{param}
use denote.Param.Send.{sendable}
use Rattle.std.proofs.Crossing.{crosses}
use Rattle.kv_bucket.proofs.Sent.{live_sync, reader_send}
use Rattle.kv_thread_tests.proofs.waiting.waits.Step.TheSendSync as step
use Rattle.kv_thread_tests.proofs.waiting.sleepers.sleep_beside.Goals as goal

pub beside-requires-send-F : goal.beside-requires-send-F
beside-requires-send-F g c κs within =
    let live = live_sync (param 0 g.row.N) g.N.LiveName c.type_bounds.send-N c.type_bounds.sync-N in
    let reader = reader_send (param 0 g.row.N) g.N.LiveName c.type_bounds.send-N c.type_bounds.sync-N in
    let rt = c.type_bounds.sync-R in
    search (sendable, crosses, step.the_send, step.the_sync) depth 30
