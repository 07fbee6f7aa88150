use Rattle.std.proofs.Common.{map}
use Rattle.kv_keys.specs.Matching.{any_matches}
use Rattle.kv_store.specs.Asked.{AreAsked}
use Rattle.kv_store.proofs.wanted.literals.Given as goal

abbrev pub invariant-loop-filter : goal.invariant-loop-filter
invariant-loop-filter l = AreAsked (any_matches (map (λ f. f.now) l.yielded)) l.keys.items
