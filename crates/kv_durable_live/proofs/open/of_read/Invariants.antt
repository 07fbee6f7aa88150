use Rattle.kv_durable_live.specs.Openings.{AreRead}
use Rattle.kv_durable_live.proofs.open.of_read.Given as goal

-- the acts of what was read
abbrev pub ghosts-of : goal.ghosts-of
ghosts-of g a = record { holds = λ acts. AreRead g.F.JournalFile.has g.F.JournalFile.usable a.about.now.0.now a.about.now.1.now.value a.about.now.2.now.durable a.about.now.2.now.dropped acts }

abbrev pub ghosts-named : goal.ghosts-named
ghosts-named g a = record { acts = a.acts.now }
