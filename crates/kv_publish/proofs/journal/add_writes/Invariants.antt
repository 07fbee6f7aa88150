use Rattle.std.proofs.Common.{◌≡◌, ◌+◌, ◌++◌, length, take}
use Rattle.kv_publish.specs.Rules.{IsWhole, acts_in}
use Rattle.kv_publish.specs.Steps.{acts_from}
use Rattle.kv_publish.proofs.Steps.{IsStepUpTo}
use Rattle.kv_publish.proofs.journal.add_writes.Given as goal

abbrev pub invariant-loop-request : goal.invariant-loop-request
invariant-loop-request g l =
    (l.at ≡ l.request-index)
    × (length l.raw ≡ length l.fn.raw + l.request-index)
    × (acts_in l.raw ≡ acts_in l.fn.raw ++ acts_from l.revision (take l.request-index l.requests))
    × (l.request-index ≡ length l.requests → IsWhole l.raw)
    × IsStepUpTo (length l.fn.raw) (length l.requests) l.raw
