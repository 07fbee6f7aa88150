use borrow.Author.Tests.{tests}
use Rattle.std.proofs.Common.{rules}
use Rattle.kv_store.proofs.version.Version.is_full.Goals as goal

pub returns-then-stored-deref-clause-full : goal.returns-then-stored-deref-clause-full
returns-then-stored-deref-clause-full c = search (rules, tests)

pub returns-else-stored-deref-clause-full : goal.returns-else-stored-deref-clause-full
returns-else-stored-deref-clause-full c = search (rules, tests)
