use denote.Param.{param}
use denote.Param.Send.{IsSend, sendable}
use Rattle.std.proofs.Crossing.{crosses}
use Rattle.kv_durable_live.proofs.Sent.{durable_live_sync}
use Rattle.kv_file.specs.contracts.memory.MemoryFile as MemoryFile
use Rattle.kv_durable_live_tests.proofs.writers.write_beside.Goals as goal

pub join-first-requires-send-F : goal.join-first-requires-send-F
join-first-requires-send-F g c κs within =
    let memory : IsSend MemoryFile.the_row = search (sendable, crosses) depth 20 in
    let live = durable_live_sync (param 0 g.row.N) g.N.LiveName c.type_bounds.send-N c.type_bounds.sync-N MemoryFile.the_row memory in
    let rt = c.type_bounds.sync-R in
    search (sendable, crosses) depth 20
