use Rattle.std.proofs.Common.{sym}
use Rattle.kv_publish.proofs.Former.{count_seen, seen_from}
use Rattle.kv_publish.proofs.prefix.RawPrefix.len.Goals as goal

pub returns-clause-value : goal.returns-clause-value
returns-clause-value c = rw (← c.self.view_is) (sym (count_seen c.self.inside.acts c.self.inside.witness.book.began c.self.inside.witness.log c.self.invariant.0))

pub returns-clause-begins : goal.returns-clause-begins
returns-clause-begins c = rw (← c.self.view_is) (seen_from c.self.inside.acts c.self.inside.witness.book.began c.self.inside.witness.log)
