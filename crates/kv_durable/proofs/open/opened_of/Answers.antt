use Rattle.std.proofs.Common.{[], sym, subst}
use Rattle.kv_durable.specs.Journals.{Keeps}
use Rattle.kv_durable.proofs.open.opened_of.Goals as goal

pub returns-clause-keeps : goal.returns-clause-keeps
returns-clause-keeps g c = λ base entries fits own first lawful can works h here.
    subst (λ j. Keeps g.F.JournalFile.has g.F.JournalFile.usable base entries [] j) (sym c.from_parts.ensures.1)
    (c.new-journal.ensures.keeps base entries fits own first lawful can works h here)
