use Rattle.std.proofs.Common.{◌∙◌, sym, subst, ◌++◌}
use Rattle.kv_single.specs.Held.{Represents}
use Rattle.kv_journal.specs.Entries.{acts_of}
use Rattle.kv_durable.specs.Bases.{acts_before}
use Rattle.kv_durable.specs.Durables.{state_of}
use Rattle.kv_durable.proofs.Finding.{again_opened, has_read, new_opened}
use Rattle.kv_durable.proofs.durable.Durable.open.Goals as goal

pub returns-in-Ok-clause-represents : goal.returns-in-Ok-clause-represents
returns-in-Ok-clause-represents g c =
    let gone = c.in-Ok.ensures.ok in
    let config = c.args.config.now in
    let knows = gone.3.knows in
    let acts = acts_before knows.0 ++ acts_of gone.2 in
    (acts, subst (Represents (state_of config acts)) (sym c.opened_of.ensures.parts.0) (gone.3.represents knows.0 knows.1))

pub returns-in-Ok-clause-restored : goal.returns-in-Ok-clause-restored
returns-in-Ok-clause-restored g c =
    let gone = c.in-Ok.ensures.ok in
    let config = c.args.config.now in
    (gone.1, gone.2, λ base is. subst (Represents (state_of config (acts_before base ++ acts_of gone.2))) (sym c.opened_of.ensures.parts.0) (gone.3.represents base is))

pub returns-in-Ok-clause-new : goal.returns-in-Ok-clause-new
returns-in-Ok-clause-new g c = λ works h.
    let has = g.F.JournalFile.has in
    let usable = g.F.JournalFile.usable in
    new_opened has usable c.args.config.now c.args.seed c.args.file c.found_in.new.file c.in-Ok.found c.opened_of.result.durable c.opened_of.result.dropped c.opened_of.result.checkpointed c.in-Ok.ensures.ok works h
    c.opened_of.ensures.parts.0 c.opened_of.ensures.parts.1 c.opened_of.ensures.parts.2 c.opened_of.ensures.journal.0
    (λ base entries own first lawful can there offset. c.opened_of.ensures.keeps base entries c.in-Ok.ensures.seed own first lawful can (c.in-Ok.ensures.usable ∙ works) there offset)

pub returns-in-Ok-clause-reopened : goal.returns-in-Ok-clause-reopened
returns-in-Ok-clause-reopened g c = λ works.
    let has = g.F.JournalFile.has in
    let usable = g.F.JournalFile.usable in
    again_opened has usable c.args.config.now c.args.seed c.args.file c.found_in.new.file c.in-Ok.found c.opened_of.result.durable c.opened_of.result.dropped c.opened_of.result.checkpointed c.in-Ok.ensures.ok works
    c.opened_of.ensures.parts.0 c.opened_of.ensures.parts.1 c.opened_of.ensures.parts.2 c.opened_of.ensures.journal.0
    (λ base entries own first lawful can there offset. c.opened_of.ensures.keeps base entries c.in-Ok.ensures.seed own first lawful can (c.in-Ok.ensures.usable ∙ works) there offset)

pub returns-in-Ok-clause-read : goal.returns-in-Ok-clause-read
returns-in-Ok-clause-read g c =
    let has = g.F.JournalFile.has in
    let usable = g.F.JournalFile.usable in
    has_read has usable c.args.config.now c.args.seed c.args.file c.found_in.new.file c.in-Ok.found c.opened_of.result.durable c.opened_of.result.dropped c.opened_of.result.checkpointed c.in-Ok.ensures.ok
    c.opened_of.ensures.parts.0 c.opened_of.ensures.parts.1 c.opened_of.ensures.parts.2 c.opened_of.ensures.journal.0
    (λ works base entries own first lawful can there offset. c.opened_of.ensures.keeps base entries c.in-Ok.ensures.seed own first lawful can (c.in-Ok.ensures.usable ∙ works) there offset)
