use denote.Param.Send.{sendable}
use Rattle.std.proofs.Crossing.{crosses}
use Rattle.kv_keys.proofs.error.KvError.TheSendSync as error
use Rattle.kv_thread_tests.proofs.beside.beside.Goals as goal

pub join-first-requires-send-A : goal.join-first-requires-send-A
join-first-requires-send-A g c κs within = search (sendable, crosses, error.the_send) depth 30
