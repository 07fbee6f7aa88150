use denote.Param.{param}
use denote.Param.Send.{sendable}
use Rattle.std.proofs.Crossing.{crosses}
use Rattle.kv_bucket.proofs.Sent.{feed_send, reader_send}
use Rattle.kv_thread_tests.proofs.feeds.stopped_beside.Goals as goal

pub join-reader-requires-send-F : goal.join-reader-requires-send-F
join-reader-requires-send-F g c κs within =
    let feed = feed_send (param 0 g.row.N) g.N.LiveName c.type_bounds.send-N c.type_bounds.sync-N in
    let rt = c.type_bounds.sync-R in
    search (sendable, crosses) depth 20

pub join-reader-requires-send-A : goal.join-reader-requires-send-A
join-reader-requires-send-A g c κs within =
    let reader = reader_send (param 0 g.row.N) g.N.LiveName c.type_bounds.send-N c.type_bounds.sync-N in
    search (sendable, crosses) depth 30
