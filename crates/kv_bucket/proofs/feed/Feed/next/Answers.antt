use Rattle.kv_bucket.proofs.feed.Feed.next.Goals as goal

pub returns : goal.returns
returns g c = search
