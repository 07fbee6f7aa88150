use Rattle.kv_durable.specs.Files.{file_of}
use Rattle.kv_durable.proofs.Adding.{begun}
use Rattle.kv_durable.proofs.journal.Journal.new.Goals as goal

pub returns-clause-keeps : goal.returns-clause-keeps
returns-clause-keeps g c = λ base entries fits own first replaced can usable h here.
    begun g.F.JournalFile.has g.F.JournalFile.usable base entries (record { framing = c.args.framing; config = c.args.config; appender = c.new.result }) fits own first replaced can c.new.ensures.none
    (c.new.ensures.has (file_of c.args.framing.seed base entries) usable h here)
