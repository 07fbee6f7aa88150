use Rattle.kv_service_tests.proofs.examples.threads.writer_and_readers.Given as goal

-- the opening that was just made
abbrev pub ghosts-opened_and_shared : goal.ghosts-opened_and_shared
ghosts-opened_and_shared g a = record { opening = a.opened.opening }
