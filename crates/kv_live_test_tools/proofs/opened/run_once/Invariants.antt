use Rattle.kv_live_test_tools.proofs.opened.run_once.Given as goal

-- the opening that was just made
abbrev pub ghosts-run_named : goal.ghosts-run_named
ghosts-run_named g a = record { opening = a.opened.opening }
