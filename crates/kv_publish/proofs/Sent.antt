-- What may cross threads of the log: publications, the copies of what is published and the notifier, where the name of their
-- opening may. What stands on them cites these; one `search` through the fields of them all finds no proof within its
-- bounds.
use denote.RattleType.{RattleType}
use denote.Param.Send.{IsSend, IsSync, sendable}
use Rattle.std.proofs.Crossing.{crosses}
use Rattle.std.proofs.sync.OnceLock.TheSendSync as once
use Rattle.kv_store.proofs.Sent.{version_send, version_sync}
use Rattle.kv_publish.specs.declared.protocol.LiveName as live_name
use Rattle.kv_publish.specs.contracts.notifier.Notifier as Notifier
use Rattle.kv_publish.specs.contracts.notifier.Shared as Shared
use Rattle.kv_publish.specs.contracts.double_buffer.DoubleBuffer as DoubleBuffer
use Rattle.kv_publish.specs.contracts.last_published.LastPublished as LastPublished
use Rattle.kv_publish.specs.contracts.publication.Publication as Publication
use Rattle.kv_publish.proofs.prefix.RawPrefix.TheSendSync as raw_prefix
use Rattle.kv_publish.specs.contracts.side.Side as Side
use Rattle.logbook.proofs.word.Word.TheSendSync as word
use Rattle.left_right.proofs.writer.Writer.TheSendSync as writer

pub publication_send : IsSend Publication.the_row
publication_send = let v = version_send in search (sendable, raw_prefix.the_send) depth 20

pub publication_sync : IsSync Publication.the_row
publication_sync = let v = version_sync in search (sendable, raw_prefix.the_sync) depth 20

pub side_send : IsSend (Side.the_field).row
side_send = let h = publication_send in search (sendable, crosses, word.the_send) depth 20

pub side_sync : IsSync (Side.the_field).row
side_sync = let i = publication_sync in search (sendable, crosses, word.the_sync) depth 20

module _ (N : RattleType) (g : live_name.Ghosts N.Denot) (s : IsSend N) (y : IsSync N) where
  last_send : IsSend (LastPublished.the_field N g).row
  last_send = let h = publication_send in search (sendable, crosses) depth 20

  last_sync : IsSync (LastPublished.the_field N g).row
  last_sync = let i = publication_sync in search (sendable, crosses) depth 20

  board_send : IsSend (Shared.the_field N g).row
  board_send = let l = last_send in search (sendable, crosses, once.the_send) depth 20

  board_sync : IsSync (Shared.the_field N g).row
  board_sync = let l = last_send in let m = last_sync in search (sendable, crosses, once.the_sync) depth 20

  pub notifier_send : IsSend (Notifier.the_field N g).row
  notifier_send = let b = board_send in let c = board_sync in search (sendable, crosses) depth 20

  pub notifier_sync : IsSync (Notifier.the_field N g).row
  notifier_sync = let b = board_send in let c = board_sync in search (sendable, crosses) depth 20

  pub buffer_send : IsSend (DoubleBuffer.the_row N g)
  buffer_send = let h = side_send in let i = side_sync in let k = publication_send in search (sendable, crosses, writer.the_send, writer.the_field_send) depth 20
