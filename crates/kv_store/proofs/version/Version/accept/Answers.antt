use borrow.Author.Tests.{tests}
use Rattle.std.proofs.Common.{rules}
use Rattle.kv_store.proofs.version.Version.accept.Goals as goal

pub returns-in-Some-clause-refused : goal.returns-in-Some-clause-refused
returns-in-Some-clause-refused c = search (rules, tests)
