use denote.Param.{param}
use denote.Param.Send.{sendable}
use Rattle.std.proofs.Crossing.{crosses}
use Rattle.kv_bucket.proofs.Sent.{live_sync, seat_send}
use Rattle.kv_bucket.proofs.threaded.run_seated.Goals as goal

pub join-followed-requires-send-F : goal.join-followed-requires-send-F
join-followed-requires-send-F g c κs within =
    let live = live_sync (param 0 g.row.N) g.N.LiveName c.type_bounds.send-N c.type_bounds.sync-N in
    let seat = seat_send (param 0 g.row.N) g.N.LiveName c.type_bounds.send-N c.type_bounds.sync-N in
    let rt = c.type_bounds.sync-R in
    let service = c.type_bounds.sync-S in
    search (sendable, crosses) depth 20
