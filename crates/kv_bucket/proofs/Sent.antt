-- What may cross threads: a reader, what it cached, a feed and a receipt may be handed to another, and what is cached, a
-- receipt and a bucket under its lock shared, where the name of its opening may. Whoever starts threads over them cites
-- these, and `Sent` of kv_store for versions; one `search` through the fields of them all finds no proof within its
-- bounds.
use denote.RattleType.{RattleType}
use denote.Param.Send.{IsSend, IsSync, sendable}
use Rattle.std.proofs.Crossing.{crosses}
use Rattle.kv_store.proofs.Sent.{ring_send, version_send}
use Rattle.kv_publish.proofs.Sent.{publication_send, publication_sync, side_send, side_sync, notifier_send, notifier_sync, buffer_send}
use Rattle.kv_publish.proofs.journal.Journal.TheSendSync as journal
use Rattle.kv_bucket.specs.contracts.receipt.Mark as Mark
use Rattle.kv_watch.proofs.Sent.{watch_send}
use Rattle.kv_publish.proofs.prefix.RawPrefix.TheSendSync as raw_prefix
use Rattle.kv_publish.specs.declared.protocol.LiveName as live_name
use Rattle.kv_bucket.specs.contracts.cached.Cached as Cached
use Rattle.kv_bucket.specs.contracts.feed.Feed as Feed
use Rattle.kv_bucket.specs.contracts.progress.Progress as Progress
use Rattle.kv_bucket.specs.contracts.publisher.Publisher as Publisher
use Rattle.kv_bucket.specs.contracts.reader.Reader as Reader
use Rattle.kv_bucket.specs.contracts.receipt.Receipt as Receipt
use Rattle.kv_bucket.specs.contracts.threaded.Seat as Seat
use Rattle.kv_publish.proofs.prefix.Prefix.TheSendSync as prefix
use Rattle.left_right.proofs.reader.Reader.TheSendSync as slot
use Rattle.kv_single.specs.contracts.bucket.Bucket as Bucket
use Rattle.kv_bucket.specs.contracts.keeper.Keeper as Keeper
use Rattle.kv_bucket.specs.contracts.live.Live as Live

bucket_send : IsSend Bucket.the_row
bucket_send = let v = version_send in let w = watch_send in search (sendable, crosses) depth 20

module _ (N : RattleType) (g : live_name.Ghosts N.Denot) (s : IsSend N) (y : IsSync N) where
  progress_send : IsSend (Progress.the_row N g)
  progress_send = search (sendable, prefix.the_send) depth 20

  pub reader_send : IsSend (Reader.the_row N g)
  reader_send = let h = publication_send in let i = side_send in let j = side_sync in let b = notifier_send N g s y in let k = progress_send in search (sendable, crosses, slot.the_send, slot.the_field_send) depth 20

  pub cached_send : IsSend (Cached.the_row N g)
  cached_send = let h = publication_send in search (sendable, crosses) depth 20

  pub cached_sync : IsSync (Cached.the_row N g)
  cached_sync = let h = publication_sync in search (sendable, crosses) depth 20

  pub feed_send : IsSend (Feed.the_row N g)
  feed_send = let h = publication_send in let r = reader_send in let w = watch_send in search (sendable, crosses, raw_prefix.the_send) depth 20

  pub mark_send : IsSend (Mark.the_row N g)
  mark_send = search (sendable, prefix.the_send) depth 20

  pub mark_sync : IsSync (Mark.the_row N g)
  mark_sync = search (sendable, prefix.the_sync) depth 20

  pub receipt_send : IsSend (Receipt.the_row N g)
  receipt_send = let m = mark_send in search sendable depth 20

  pub receipt_sync : IsSync (Receipt.the_row N g)
  receipt_sync = let m = mark_sync in search sendable depth 20

  publisher_send : IsSend (Publisher.the_row N g)
  publisher_send = let h = publication_send in let c = buffer_send N g s y in let b = notifier_send N g s y in search (sendable, crosses, journal.the_send) depth 20

  pub keeper_send : IsSend (Keeper.the_row N g)
  keeper_send = let b = bucket_send in let p = publisher_send in let r = ring_send in search (sendable, crosses) depth 20

  pub live_sync : IsSync (Live.the_row N g)
  live_sync = let k = keeper_send in let b = notifier_sync N g s y in search (sendable, crosses) depth 20

  pub seat_send : IsSend (Seat.the_row N g)
  seat_send = let r = reader_send in search (sendable, crosses) depth 20
