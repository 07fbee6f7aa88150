use denote.Param.{param}
use denote.Param.Send.{sendable}
use Rattle.std.proofs.Crossing.{crosses}
use Rattle.kv_keys.proofs.error.KvError.TheSendSync as error
use Rattle.kv_bucket.proofs.Sent.{feed_send}
use Rattle.kv_service_tests.proofs.examples.threads.follow_both.Goals as goal

pub join-first-requires-send-F : goal.join-first-requires-send-F
join-first-requires-send-F g c κs within =
    let feed = feed_send (param 0 g.row.N) g.N.LiveName c.type_bounds.send-N c.type_bounds.sync-N in
    search (sendable, crosses) depth 20

pub join-first-requires-send-A : goal.join-first-requires-send-A
join-first-requires-send-A g c κs within = search (sendable, crosses, error.the_send) depth 30
