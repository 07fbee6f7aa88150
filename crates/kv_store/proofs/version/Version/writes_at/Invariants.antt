use Rattle.std.proofs.Common.{◌≡◌, map, take}
use Rattle.std.specs.List.{filter_map}
use Rattle.kv_store.specs.Stored.{write_at}
use Rattle.kv_store.proofs.version.Version.writes_at.Given as goal

abbrev pub invariant-loop-revision : goal.invariant-loop-revision
invariant-loop-revision l = map (λ w. w.now) l.found.items ≡ filter_map (λ r. write_at r l.self) (take l.revision-index l.revisions)
