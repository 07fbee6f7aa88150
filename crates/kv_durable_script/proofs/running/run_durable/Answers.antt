use Rattle.std.proofs.Common.{sym, subst}
use Rattle.std.proofs.lemmas.Result.{on_ok_weaker}
use Rattle.kv_single.specs.Held.{Represents}
use Rattle.kv_durable.specs.Durables.{IsAt}
use Rattle.kv_durable.specs.Endings.{IsClosed}
use Rattle.kv_durable_script.specs.Keeping.{KeepsOn}
use Rattle.kv_durable_script.specs.Runs.{HasEnded}
use Rattle.kv_durable_script.proofs.Closing.{answers, closes, goes_last, ok_gives}
use Rattle.kv_durable_script.proofs.running.run_durable.Goals as goal

pub returns-clause-recorded : goal.returns-clause-recorded
returns-clause-recorded g c =
    let has = g.F.JournalFile.has in
    let usable = g.F.JournalFile.usable in
    let last = c.run_on-target.result.target.durable in
    on_ok_weaker c.close.result.result (λ done state kept loose at_first.
    let out = ok_gives c.outcome_of.result c.outcome_of.ensures.ok done.0 in
    let goes = goes_last usable last c.durable.result.now c.journal.result.now c.is_stopped-is_stopped.result c.is_stopped-is_stopped.ensures c.journal.ensures c.durable.ensures out.1 in
    let stands = ok_gives c.run_on-target.result.result c.run_on-target.ensures.stands out.0 in
    closes has usable c.args.form state kept loose _ _ c.args.durable last c.close.result.file
    (subst (λ d. KeepsOn has usable d last) c.new.ensures c.run_on-target.ensures.kept) goes
    (λ s k l is. subst (λ d. (at : IsAt has usable s k l d) → IsClosed has at.base k l s.acts d.journal c.close.result.file) c.into_durable.ensures (done.1 s k l) is)
    (stands state (subst (λ d. Represents state d.bucket) (sym c.new.ensures) at_first.represents)) at_first)
    c.close.ensures.ok

pub returns-clause-answered : goal.returns-clause-answered
returns-clause-answered g c = λ state kept loose at_first.
    let has = g.F.JournalFile.has in
    let usable = g.F.JournalFile.usable in
    let last = c.run_on-target.result.target.durable in
    answers has usable c.args.form state kept loose _ _ _ _ c.args.durable last c.close.result.file
    (subst (λ d. KeepsOn has usable d last) c.new.ensures c.run_on-target.ensures.kept)
    (λ s k l is. subst (λ d. (at : IsAt has usable s k l d) → HasEnded has at.base k l s.acts d.journal c.close.result.file) c.into_durable.ensures (c.close.ensures.file s k l) is)
    (c.run_on-target.ensures.left state (subst (λ d. Represents state d.bucket) (sym c.new.ensures) at_first.represents)) at_first
