use Rattle.std.proofs.Common.{take}
use Rattle.kv_journal.specs.inside.Contents.{writes_told}
use Rattle.kv_journal.proofs.Sparing.{NoneClears}
use Rattle.kv_journal.proofs.course.are_spared.Given as goal

abbrev pub invariant-loop-write : goal.invariant-loop-write
invariant-loop-write l = NoneClears l.floor l.version (writes_told (take l.write-index l.writes))
