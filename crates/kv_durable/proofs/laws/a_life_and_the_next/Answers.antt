use Rattle.kv_durable.proofs.Living.{life_and_next as lemma}
use Rattle.kv_durable.proofs.laws.a_life_and_the_next.Goals as goal

pub returns : goal.returns
returns g c = lemma g.F.JournalFile.has g.F.JournalFile.usable
