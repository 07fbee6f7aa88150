-- What may cross threads: a watch. Whoever hands what holds one to another thread cites this.
use denote.Param.Send.{IsSend, sendable}
use Rattle.std.proofs.Crossing.{crosses}
use Rattle.kv_store.proofs.Sent.{version_send}
use Rattle.kv_watch.proofs.cursor.Cursor.TheSendSync as cursor
use Rattle.kv_watch.specs.contracts.watch.Watch as Watch

pub watch_send : IsSend Watch.the_row
watch_send = let v = version_send in search (sendable, crosses, cursor.the_send) depth 20
