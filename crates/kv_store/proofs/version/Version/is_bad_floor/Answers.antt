use borrow.Author.Tests.{tests}
use Rattle.std.proofs.Common.{rules}
use Rattle.kv_store.proofs.version.Version.is_bad_floor.Goals as goal

pub returns-else-deref-floor : goal.returns-else-deref-floor
returns-else-deref-floor c = search (rules, tests)
