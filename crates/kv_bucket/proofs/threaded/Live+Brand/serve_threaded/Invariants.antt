use Rattle.kv_bucket.proofs.threaded.Live+Brand.serve_threaded.Given as goal

-- the opening that was just made
abbrev pub ghosts-serve_on : goal.ghosts-serve_on
ghosts-serve_on g a = record { opening = a.opened.opening }
