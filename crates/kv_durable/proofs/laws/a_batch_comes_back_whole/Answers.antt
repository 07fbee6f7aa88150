use Rattle.kv_durable.proofs.Whole.{answered, cut_off}
use Rattle.kv_durable.proofs.laws.a_batch_comes_back_whole.Goals as goal

pub returns-clause-answered : goal.returns-clause-answered
returns-clause-answered g c = answered g.F.JournalFile.has g.F.JournalFile.usable

pub returns-clause-cut_off : goal.returns-clause-cut_off
returns-clause-cut_off g c = cut_off g.F.JournalFile.has g.F.JournalFile.usable
