use denote.Param.{param}
use denote.Param.Send.{sendable}
use Rattle.std.proofs.Crossing.{crosses}
use Rattle.kv_bucket.proofs.Sent.{reader_send}
use Rattle.kv_thread_tests.proofs.pairs.beside_a_reader.Goals as goal

pub beside_the_writer-requires-send-F : goal.beside_the_writer-requires-send-F
beside_the_writer-requires-send-F g c κs within =
    let reader = reader_send (param 0 g.row.N) g.N.LiveName c.type_bounds.send-N c.type_bounds.sync-N in
    let rt = c.type_bounds.sync-R in
    search (sendable, crosses) depth 20
