use Rattle.std.proofs.Common.{sym, ◌∙◌}
use Rattle.kv_publish.proofs.Former.{count_all}
use Rattle.kv_publish.proofs.journal.Journal.len.Goals as goal

pub returns : goal.returns
returns g c = c.len.ensures ∙ sym (count_all g.N.LiveName.opening.book.began c.args.self.now c.self.inside.raw c.self.view_is)
