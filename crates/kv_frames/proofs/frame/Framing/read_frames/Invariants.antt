use Rattle.std.proofs.Common.{map, length}
use Rattle.kv_frames.proofs.Reading.{IsRead}
use Rattle.kv_frames.proofs.frame.Framing.read_frames.Given as goal

abbrev pub invariant-loop-payload : goal.invariant-loop-payload
invariant-loop-payload l = IsRead l.self.seed l.at l.bytes (map (λ p. p.items) l.payloads.items) l.offset l.rest

abbrev pub decreases-loop-payload : goal.decreases-loop-payload
decreases-loop-payload l = length l.rest
