use Rattle.kv_bench.proofs.live_memory.run.Given as goal

-- the opening that was just made
abbrev pub ghosts-opened_figures : goal.ghosts-opened_figures
ghosts-opened_figures g a = record { opening = a.opened.opening }
