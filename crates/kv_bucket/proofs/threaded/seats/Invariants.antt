use Rattle.std.proofs.Common.{◌≡◌, ◌+◌, [], length}
use Rattle.std.specs.Prelude.{All}
use Rattle.std.specs.Vec.Iter.{into_iter_items}
use Rattle.kv_bucket.specs.Serving.{AreNumbered}
use Rattle.kv_bucket.proofs.threaded.seats.Given as goal

-- the seats so far are numbered, and the other readers are fresh
abbrev pub invariant-loop-reader : goal.invariant-loop-reader
invariant-loop-reader g l =
    AreNumbered (λ seat. seat.number) l.seats.items
    × All (λ reader. (reader.seen ≡ []) × (reader.told ≡ [])) (into_iter_items l.reader-iterator)
    × (length l.seats.items + length (into_iter_items l.reader-iterator) ≡ length l.fn.readers.items)
