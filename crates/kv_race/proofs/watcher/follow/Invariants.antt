use Rattle.std.proofs.Common.{◌≡◌}
use Rattle.kv_race.specs.Watching.{WritesDown}
use Rattle.kv_race.proofs.watcher.follow.Given as goal

-- what was handed out so far was written down
abbrev pub invariant-loop-n : goal.invariant-loop-n
invariant-loop-n g l = record {
  watch : g.F.Follows.watch l.feed ≡ g.F.Follows.watch l.fn.feed;
  seen : WritesDown (g.F.Follows.handed_out l.fn.feed) l.fn.seen.items (g.F.Follows.handed_out l.feed) l.seen.items;
}
