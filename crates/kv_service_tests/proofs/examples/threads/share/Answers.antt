use denote.Param.{param}
use denote.Param.Send.{sendable}
use Rattle.std.proofs.Crossing.{crosses}
use Rattle.kv_keys.proofs.error.KvError.TheSendSync as error
use Rattle.kv_bucket.proofs.Sent.{live_sync}
use Rattle.kv_service_tests.proofs.examples.threads.share.Goals as goal

pub join-written-requires-send-F : goal.join-written-requires-send-F
join-written-requires-send-F g c κs within =
    let live = live_sync (param 0 g.row.N) g.N.LiveName c.type_bounds.send-N c.type_bounds.sync-N in
    let rt = c.type_bounds.sync-R in
    search (sendable, crosses) depth 20

pub join-written-requires-send-A : goal.join-written-requires-send-A
join-written-requires-send-A g c κs within = search (sendable, crosses, error.the_send) depth 30
