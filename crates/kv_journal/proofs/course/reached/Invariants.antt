use Rattle.std.proofs.Common.{◌≡◌, take}
use Rattle.kv_journal.specs.inside.Contents.{writes_told}
use Rattle.kv_journal.specs.inside.Courses.{IsCourse}
use Rattle.kv_journal.proofs.course.reached.Given as goal

abbrev pub invariant-loop-write : goal.invariant-loop-write
invariant-loop-write l = record {
  course : IsCourse (writes_told (take l.write-index l.contents.writes.items)) l.course;
  floor : l.course.floor ≡ l.contents.numbers.floor;
  config : l.course.config.now ≡ l.config;
}
