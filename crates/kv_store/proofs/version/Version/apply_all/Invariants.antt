use Rattle.std.proofs.Common.{◌≡◌, ◌<◌, ◌+◌, ◌^◌, ◌∷◌, List, length, map}
use Rattle.kv_model.specs.Acts.{Act, writes_of}
use Rattle.kv_model.specs.Requests.{asked}
use Rattle.kv_store.specs.Batches.{Leaves, LeavesEach}
use Rattle.kv_store.specs.Standing.{StandsFor}
use Rattle.kv_store.proofs.Batching.{up_to}
use Rattle.kv_store.proofs.version.Version.apply_all.Given as goal

abbrev pub invariant-loop-request : goal.invariant-loop-request
invariant-loop-request l =
    (l.at ≡ l.request-index + 1)
    × (l.next.config ≡ l.self.config)
    × Leaves (up_to (asked l.first) l.rest l.request-index) l.self l.next
    × ((acts : List Act) → StandsFor acts l.self → l.revision ≡ length (writes_of acts) + 1)
    × LeavesEach (asked l.first ∷ map asked l.rest) (l.request-index + 1) l.self
    × (l.revision < 2 ^ 32)
