use Rattle.std.proofs.Common.{◌≡◌, map, take}
use Rattle.kv_race.proofs.threads.start_workers.Given as goal

-- each thread so far has promised to answer its script
abbrev pub invariant-loop-worker : goal.invariant-loop-worker
invariant-loop-worker g l = map (λ h. h.promise.0.value) l.workers.items ≡ take l.worker l.scripts
