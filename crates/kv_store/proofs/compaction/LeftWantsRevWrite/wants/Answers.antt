use borrow.Author.Tests.{tests}
use Rattle.std.proofs.Common.{rules}
use Rattle.kv_store.proofs.compaction.LeftWantsRevWrite.wants.Goals as goal

pub returns-else-revision-self : goal.returns-else-revision-self
returns-else-revision-self c = search (rules, tests)
