use denote.Param.{param}
use denote.Param.Send.{sendable}
use Rattle.std.proofs.Crossing.{crosses}
use Rattle.kv_keys.proofs.key.Key.TheSendSync as key
use Rattle.kv_model.proofs.request.Request.TheSendSync as request
use Rattle.kv_bucket.proofs.Sent.{cached_send, feed_send, live_sync, reader_send}
use Rattle.kv_bench.proofs.live_rounds.round.Goals as goal

pub perform_all-requires-send-P : goal.perform_all-requires-send-P
perform_all-requires-send-P g c κs within =
    let live = live_sync (param 0 g.row.N) g.N.LiveName c.type_bounds.send-N c.type_bounds.sync-N in
    search (sendable, crosses, request.the_sync) depth 20

pub perform_all-requires-send-G : goal.perform_all-requires-send-G
perform_all-requires-send-G g c κs within =
    let reader = reader_send (param 0 g.row.N) g.N.LiveName c.type_bounds.send-N c.type_bounds.sync-N in
    let cached = cached_send (param 0 g.row.N) g.N.LiveName c.type_bounds.send-N c.type_bounds.sync-N in
    search (sendable, crosses, key.the_sync) depth 20

pub perform_all-requires-send-T : goal.perform_all-requires-send-T
perform_all-requires-send-T g c κs within =
    let feed = feed_send (param 0 g.row.N) g.N.LiveName c.type_bounds.send-N c.type_bounds.sync-N in
    search (sendable, crosses) depth 20
