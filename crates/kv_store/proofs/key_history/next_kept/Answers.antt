use borrow.Author.Tests.{tests}
use Rattle.std.proofs.Common.{rules}
use Rattle.kv_store.proofs.key_history.next_kept.Goals as goal

pub returns-then-is_purge : goal.returns-then-is_purge
returns-then-is_purge c = search (rules, tests)

pub returns : goal.returns
returns c = search (rules, tests)
