use Rattle.std.proofs.Common.{◌≡◌, drop, map, take, vec_len}
use Rattle.std.specs.List.{AllZip}
use Rattle.std.specs.Vec.Iter.{into_iter_items}
use Rattle.kv_race.specs.Telling.{IsEnded}
use Rattle.kv_race.proofs.racing.end_watches.Given as goal

-- the watches so far have ended
abbrev pub invariant-loop-one : goal.invariant-loop-one
invariant-loop-one g l = record {
  ended : AllZip (λ one end. IsEnded g.N.LiveName.opening.config (map (λ some. some.items) l.answers) one.feed one.seen.items end.reader.seen end.last end.seen.items) (take (vec_len l.all) l.fn.watched.items) l.all.items;
  rest : into_iter_items l.one-iterator ≡ drop (vec_len l.all) l.fn.watched.items;
}
