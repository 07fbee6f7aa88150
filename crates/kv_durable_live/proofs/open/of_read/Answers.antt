use Rattle.std.proofs.Common.{◌++◌, refl}
use Rattle.kv_durable.specs.Bases.{acts_before}
use Rattle.kv_durable_live.specs.Openings.{GoesOnFrom}
use Rattle.kv_durable_live.proofs.Opening.{both_ok, goes_on_from, represents_read}
use Rattle.kv_durable_live.proofs.open.of_read.Goals as goal
use Rattle.kv_journal.specs.Entries.{acts_of}

pub of-acts-requires : goal.of-acts-requires
of-acts-requires g c =
    let read = c.requires.read in
    (acts_before read.0 ++ acts_of read.1, (read.0, read.1, refl, read.2))

pub named-requires-clause-represents : goal.named-requires-clause-represents
named-requires-clause-represents g c =
    represents_read g.F.JournalFile.has g.F.JournalFile.usable c.args.config.now c.args.before.now.value c.args.read.durable c.args.read.dropped c.of-acts.result c.of-acts.ensures

pub returns-clause-from : goal.returns-clause-from
returns-clause-from g c =
    let has = g.F.JournalFile.has in
    let usable = g.F.JournalFile.usable in
    let file = c.args.before.now.value in
    both_ok c.named.result _ _ (λ o. GoesOnFrom has usable c.args.config.now file o.journal o.opened.opening.book.began)
    (λ o is same. goes_on_from has usable c.args.config.now file c.args.read.durable c.args.read.dropped o.journal o.opened.opening.book.began c.of-acts.result c.of-acts.ensures same is) c.named.ensures.began c.named.ensures.journal
