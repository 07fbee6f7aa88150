use Rattle.std.proofs.Common.{◌≡◌, ◌++◌, map}
use Rattle.std.specs.Vec.Iter.{into_iter_items}
use Rattle.kv_race.proofs.threads.start_watchers.Given as goal

-- each thread so far has promised to follow its feed
abbrev pub invariant-loop-feed : goal.invariant-loop-feed
invariant-loop-feed g l = map (λ h. h.promise.0.value) l.watchers.items ++ into_iter_items l.feed-iterator ≡ into_iter_items l.initial.feed-iterator
