use Rattle.kv_race.proofs.racing.race.Given as goal

-- the bucket that was just opened
abbrev pub ghosts-race_on : goal.ghosts-race_on
ghosts-race_on g a = record { opening = a.opened.opening }
