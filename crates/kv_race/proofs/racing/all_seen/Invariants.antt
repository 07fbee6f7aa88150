use Rattle.std.proofs.Common.{◌≡◌, ◌++◌, map}
use Rattle.std.specs.Vec.Iter.{into_iter_items}
use Rattle.kv_race.proofs.racing.all_seen.Given as goal

-- the items so far, and the watches that are left
abbrev pub invariant-loop-end : goal.invariant-loop-end
invariant-loop-end g l = map (λ seen. seen.items) l.all.items ++ map (λ end. end.seen.items) (into_iter_items l.end-iterator) ≡ map (λ end. end.seen.items) l.fn.ended.items
