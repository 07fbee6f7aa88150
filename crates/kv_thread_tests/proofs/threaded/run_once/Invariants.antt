use Rattle.kv_thread_tests.proofs.threaded.run_once.Given as goal

-- the opening that was just made
abbrev pub ghosts-run_named : goal.ghosts-run_named
ghosts-run_named g a = record { opening = a.opened.opening }
