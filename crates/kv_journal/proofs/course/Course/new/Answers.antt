-- Of no writes each fact holds.
use Rattle.std.proofs.Common.{refl}
use Rattle.kv_journal.proofs.GoingOn.{no_course}
use Rattle.kv_journal.proofs.course.Course.new.Goals as goal

pub returns-clause-course : goal.returns-clause-course
returns-clause-course c = no_course _ c.requires.stands c.requires.config c.new.ensures.items refl
