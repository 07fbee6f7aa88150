use Rattle.kv_durable_live.proofs.Living.{new_file_back, old_file_back}
use Rattle.kv_durable_live.proofs.laws.a_crash_in_a_checkpoint.Goals as goal

pub returns-clause-new_file : goal.returns-clause-new_file
returns-clause-new_file g c = new_file_back g.F.JournalFile.has g.F.JournalFile.usable

pub returns-clause-old_file : goal.returns-clause-old_file
returns-clause-old_file g c = old_file_back g.F.JournalFile.has g.F.JournalFile.usable
