use Rattle.kv_durable.proofs.Living.{goes_on as lemma}
use Rattle.kv_durable.proofs.laws.a_life_goes_on.Goals as goal

pub returns : goal.returns
returns g c = lemma g.F.JournalFile.has g.F.JournalFile.usable
