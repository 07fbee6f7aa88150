use Rattle.std.proofs.Common.{arith}
use Rattle.kv_single.proofs.Answering.{no_room_is, room_is}
use Rattle.kv_single.proofs.bucket.Bucket.has_room.Goals as goal

pub returns-then-len-lt-MOST_OPEN-clause-room : goal.returns-then-len-lt-MOST_OPEN-clause-room
returns-then-len-lt-MOST_OPEN-clause-room c = rw (← c.self.view_is) (λ state r. room_is state _ r (omega (arith, c.self.inside.watches.ok.0)))

pub returns-else-len-lt-MOST_OPEN-clause-room : goal.returns-else-len-lt-MOST_OPEN-clause-room
returns-else-len-lt-MOST_OPEN-clause-room c = rw (← c.self.view_is) (λ state r. no_room_is state _ c.len.result r (omega (arith, c.self.inside.watches.ok.0)) (omega arith))
