use Rattle.kv_durable.proofs.Living.{new_again, new_shows_none, own_beginning}
use Rattle.kv_durable.proofs.laws.a_crash_while_a_file_is_made.Goals as goal

pub returns-clause-begun : goal.returns-clause-begun
returns-clause-begun g c = new_again g.F.JournalFile.has g.F.JournalFile.usable

pub returns-clause-not_damaged : goal.returns-clause-not_damaged
returns-clause-not_damaged g c = new_shows_none g.F.JournalFile.has g.F.JournalFile.usable

pub returns-clause-not_of_another : goal.returns-clause-not_of_another
returns-clause-not_of_another g c = own_beginning
