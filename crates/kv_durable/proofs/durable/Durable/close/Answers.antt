use Rattle.std.proofs.Common.{sym, subst, ◌++◌}
use Rattle.kv_durable.specs.Endings.{end_of}
use Rattle.kv_durable.specs.Journals.{IsLeft, told_next}
use Rattle.kv_durable.proofs.durable.Durable.close.Goals as goal

pub returns-clause-handed : goal.returns-clause-handed
returns-clause-handed g c = λ state kept loose there.
    let journal = c.args.self.journal in
    subst (λ file. IsLeft g.F.JournalFile.has journal.framing.seed there.base kept (loose ++ told_next journal (end_of state.acts)) file) (sym c.into_file-in-Err.ensures)
    (c.in-Err.ensures.handed state.acts there.base kept loose (c.version.ensures.acts state there.represents).1 there.acts there.keeps)
