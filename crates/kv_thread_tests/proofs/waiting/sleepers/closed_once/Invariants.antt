use Rattle.kv_thread_tests.proofs.waiting.sleepers.closed_once.Given as goal

-- the opening that was just made
abbrev pub ghosts-close_beside : goal.ghosts-close_beside
ghosts-close_beside g a = record { opening = a.opened.opening }
