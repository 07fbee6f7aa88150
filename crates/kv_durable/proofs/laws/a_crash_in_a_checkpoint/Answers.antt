use Rattle.kv_durable.proofs.Living.{new_file_again, old_file_again, shows_none}
use Rattle.kv_durable.proofs.laws.a_crash_in_a_checkpoint.Goals as goal

pub returns-clause-new_file : goal.returns-clause-new_file
returns-clause-new_file g c = new_file_again g.F.JournalFile.has g.F.JournalFile.usable

pub returns-clause-old_file : goal.returns-clause-old_file
returns-clause-old_file g c = old_file_again g.F.JournalFile.has g.F.JournalFile.usable

pub returns-clause-not_damaged : goal.returns-clause-not_damaged
returns-clause-not_damaged g c = shows_none g.F.JournalFile.has g.F.JournalFile.usable
