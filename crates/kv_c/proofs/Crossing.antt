-- What may go to another thread: all that a handle can hold.
use denote.Enum.Enum.{Enum}
use denote.Enum.Declared.{shape}
use denote.Param.Send.{IsSend, enum_send, recorded_send, sendable}
use Rattle.std.proofs.Crossing.{crosses}
use Rattle.kv_model.proofs.request.Request.TheSendSync as request
use Rattle.kv_store.proofs.Sent.{ring_send, version_send}
use Rattle.kv_single.specs.contracts.bucket.Bucket as Bucket
use Rattle.kv_c.specs.contracts.batch.Batch as Batch
use Rattle.kv_c.specs.contracts.content.Content as Content
use Rattle.kv_c.specs.contracts.feed.Feed as Feed
use Rattle.kv_c.specs.contracts.filed.Filed as Filed
use Rattle.kv_c.specs.contracts.filed.Syncs as Syncs
use Rattle.kv_c.specs.contracts.made.Made as Made
use Rattle.kv_c.specs.contracts.ringed.NextVersion as NextVersion
use Rattle.kv_c.specs.contracts.ringed.Ringed as Ringed
use Rattle.kv_watch.proofs.Sent.{watch_send}

bucket_send : IsSend Bucket.the_row
bucket_send = let v = version_send in let w = watch_send in search (sendable, crosses) depth 20

next_send : IsSend NextVersion.the_row
next_send = let v = version_send in let r = ring_send in search (sendable, crosses) depth 20

ringed_send : IsSend Ringed.the_row
ringed_send = let b = bucket_send in let r = ring_send in search (sendable, crosses) depth 20

feed_send : IsSend Feed.the_row
feed_send = let v = version_send in let w = watch_send in search (sendable, crosses) depth 20

batch_send : IsSend Batch.the_row
batch_send = search (sendable, crosses, request.the_send) depth 20

filed_send : IsSend Filed.the_row
filed_send = search (sendable, crosses) depth 20

syncs_send : IsSend Syncs.the_row
syncs_send = search (sendable, crosses) depth 20

made_send : IsSend Made.the_row
made_send = let b = ringed_send in let n = next_send in let f = filed_send in let s = syncs_send in search (sendable, crosses) depth 40

-- variant by variant: one search through all of them ends at its bounds
pub content_send : IsSend Content.the_row
content_send =
    let b = ringed_send in let v = version_send in let f = feed_send in let a = batch_send in let i = filed_send in let m = made_send in
    recorded_send (Enum (shape Content.the_type)) _ _ (Content.the_type).to_one (enum_send (shape Content.the_type) (
      (search sendable, (search sendable, (search sendable, tt))),
      ((search sendable, (search sendable, tt)), ((search sendable, (search sendable, tt)), ((search sendable, tt), ((search sendable, (search sendable, tt)), tt)))),
    ))
