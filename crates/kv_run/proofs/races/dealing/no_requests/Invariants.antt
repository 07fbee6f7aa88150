use Rattle.std.proofs.Common.{◌≡◌, [], map, replicate}
use Rattle.kv_model.specs.Requests.{asked}
use Rattle.kv_run.proofs.races.dealing.no_requests.Given as goal

-- so many scripts so far
abbrev pub invariant-loop : goal.invariant-loop
invariant-loop l = map (λ script. map asked script.items) l.scripts.items ≡ replicate l.counter []
