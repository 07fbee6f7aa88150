use Rattle.kv_durable.proofs.Replacing.{either_file}
use Rattle.kv_durable.proofs.journal.Journal.replace.Goals as goal

pub returns-in-Err-clause-unknown : goal.returns-in-Err-clause-unknown
returns-in-Err-clause-unknown g c = λ e was base kept loose keeps is.
    either_file g.F.JournalFile.has g.F.JournalFile.usable was base kept loose c.args.self.now c.replace.new.self.file c.args.framing.seed c.args.bytes.items keeps is (c.in-Err.ensures.unknown e)
