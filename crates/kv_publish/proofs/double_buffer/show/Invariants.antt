use Rattle.std.proofs.Common.{◌≡◌, ◌++◌, ◌∷◌, [], drop}
use Rattle.kv_publish.specs.inside.Waiting.{waiting}
use Rattle.kv_publish.proofs.double_buffer.show.Given as goal

-- the publication is the last that is pending, or waits behind that
abbrev pub invariant-loop : goal.invariant-loop
invariant-loop g l = drop l.writer.behind l.writer.log.items ++ waiting l.offered ≡ drop l.fn.writer.behind l.fn.writer.log.items ++ l.fn.publication ∷ []
