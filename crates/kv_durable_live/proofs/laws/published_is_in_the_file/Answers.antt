use Rattle.kv_durable_live.proofs.Living.{published_acts}
use Rattle.kv_durable_live.proofs.laws.published_is_in_the_file.Goals as goal

pub returns : goal.returns
returns g c = published_acts g.F.JournalFile.has g.F.JournalFile.usable
