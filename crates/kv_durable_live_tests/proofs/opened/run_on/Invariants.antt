use Rattle.kv_durable_live_tests.proofs.opened.run_on.Given as goal

-- the opening that was just made
abbrev pub ghosts-run_named : goal.ghosts-run_named
ghosts-run_named g a = record { opening = a.opened.opened.opening }
