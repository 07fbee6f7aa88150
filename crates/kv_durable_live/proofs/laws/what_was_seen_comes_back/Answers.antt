use Rattle.kv_durable_live.proofs.Living.{seen_comes_back}
use Rattle.kv_durable_live.proofs.laws.what_was_seen_comes_back.Goals as goal

pub returns : goal.returns
returns g c = seen_comes_back g.F.JournalFile.has g.F.JournalFile.usable
