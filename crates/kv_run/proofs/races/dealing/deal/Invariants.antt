use Rattle.std.proofs.Common.{◌≡◌, ◌++◌, length, map}
use Rattle.std.specs.Vec.Iter.{into_iter_items}
use Rattle.kv_model.specs.Requests.{asked}
use Rattle.kv_run.specs.Dealing.{dealt}
use Rattle.kv_run.proofs.races.dealing.deal.Given as goal

-- the requests so far were dealt
abbrev pub invariant-loop-request : goal.invariant-loop-request
invariant-loop-request l = record {
  rest : l.yielded ++ into_iter_items l.request-iterator ≡ l.fn.requests.items;
  count : l.count ≡ length l.yielded;
  given : map (λ script. map asked script.items) l.scripts.items ≡ dealt l.workers (map asked l.yielded);
}
