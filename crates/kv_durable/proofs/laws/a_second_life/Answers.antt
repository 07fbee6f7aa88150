use Rattle.kv_durable.proofs.Living.{second_life as lemma}
use Rattle.kv_durable.proofs.laws.a_second_life.Goals as goal

pub returns : goal.returns
returns g c = lemma g.F.JournalFile.has g.F.JournalFile.usable
