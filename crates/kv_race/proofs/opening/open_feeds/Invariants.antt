use Rattle.std.proofs.Common.{take}
use Rattle.std.specs.List.{AllZip}
use Rattle.kv_race.specs.Openings.{IsFresh}
use Rattle.kv_race.proofs.opening.open_feeds.Given as goal

-- the watches so far have begun
abbrev pub invariant-loop-n : goal.invariant-loop-n
invariant-loop-n g l = AllZip (IsFresh g.N.LiveName.opening.config) (take l.n l.watches) l.feeds.items
