use Rattle.std.proofs.Common.{◌≡◌}
use Rattle.kv_race.specs.Watching.{WritesDown}
use Rattle.kv_race.proofs.watcher.collect.Given as goal

-- what was handed out so far was written down
abbrev pub invariant-loop-feed : goal.invariant-loop-feed
invariant-loop-feed g l = record {
  watch : g.F.Follows.watch l.feed ≡ g.F.Follows.watch l.fn.feed;
  place : g.F.Follows.place l.feed ≡ g.F.Follows.place l.fn.feed;
  seen : WritesDown (g.F.Follows.handed_out l.fn.feed) l.fn.seen.items (g.F.Follows.handed_out l.feed) l.seen.items;
}

abbrev pub decreases-loop-feed : goal.decreases-loop-feed
decreases-loop-feed g l = g.F.Follows.left l.feed
