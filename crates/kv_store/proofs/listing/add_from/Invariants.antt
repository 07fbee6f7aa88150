use Rattle.std.proofs.Common.{◌≡◌, ◌++◌, take, filter}
use Rattle.std.specs.Prelude.{nat_le}
use Rattle.kv_store.proofs.listing.add_from.Given as goal

abbrev pub invariant-loop-revision : goal.invariant-loop-revision
invariant-loop-revision l = l.found.items ≡ l.fn.found.items ++ filter (λ r. nat_le l.first r) (take l.revision-index l.revisions)
