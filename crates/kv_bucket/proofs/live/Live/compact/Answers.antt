use Rattle.kv_bucket.proofs.live.Live.compact.Goals as goal

pub returns-clause-ok : goal.returns-clause-ok
returns-clause-ok g c = search
