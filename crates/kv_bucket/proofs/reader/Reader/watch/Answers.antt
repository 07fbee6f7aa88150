use Rattle.std.proofs.Common.{[], ◌∙◌, append-nil}
use Rattle.kv_bucket.proofs.reader.Reader.watch.Goals as goal

pub begin-requires-clause-seen : goal.begin-requires-clause-seen
begin-requires-clause-seen g c = ([], append-nil c.in-Ok.publication.raw_prefix.acts ∙ c.in-Ok.ensures.ok.0)
