use Rattle.std.proofs.Common.{[], refl}
use Rattle.kv_durable.proofs.Ended.{all_synced}
use Rattle.kv_durable.proofs.Recording.{untouched}
use Rattle.kv_durable_live.specs.Sharing.{durable_of}
use Rattle.kv_durable_live.proofs.keeper.DurableKeeper.sync.Goals as goal
use Rattle.kv_file.proofs.Added.{when_err}

pub returns-in_err-may_add-clause-handed : goal.returns-in_err-may_add-clause-handed
returns-in_err-may_add-clause-handed g c = when_err c.from_residual.result (untouched g.F.JournalFile.has g.F.JournalFile.usable (λ _. []) (durable_of c.args.self.now.keeper c.args.self.now.journal) (durable_of c.args.self.now.keeper c.args.self.now.journal) refl)

pub returns-clause-ok : goal.returns-clause-ok
returns-clause-ok g c = λ state kept loose at.
    let keeper = c.args.self.now.keeper in
    let old = durable_of keeper c.args.self.now.journal in
    let there = all_synced g.F.JournalFile.has g.F.JournalFile.usable old (durable_of keeper c.flush.new.self) refl c.in_ok-flush.ensures.ok state kept loose at.durable in
    (record { durable = there.0; published = at.published }, there.1)
