use Rattle.std.proofs.Common.{◌≡◌, ◌⊎◌, ◌<◌, Err, Ok, true, false, [], ◌∷◌, ap, arith, inl, inr, refl, sym, subst}
use Rattle.std.proofs.lemmas.Result.{IfErr-at_err}
use Rattle.kv_model.specs.Acts.{Compact}
use Rattle.kv_model.specs.State.{State, after}
use Rattle.kv_model.specs.declared.call.Call.TheVariants as calls
use Rattle.kv_journal.specs.Records.{did}
use Rattle.kv_durable.specs.Durables.{IsRecorded}
use Rattle.kv_durable.specs.declared.error.DurableError.TheVariants.{FileFault, Refused}
use Rattle.kv_durable.proofs.Checkpointing.{offset_is, still_recorded, then_either, then_replaced}
use Rattle.kv_durable_live.specs.Sharing.{durable_of}
use Rattle.kv_durable_live.proofs.keeper.DurableKeeper.compact_and_checkpoint.Goals as goal

pub returns-clause-left : goal.returns-clause-left
returns-clause-left g c = λ e.
    let is : c.replace_large-replaced.result ≡ Ok false = c.of.ensures.left (cc e) in
    let floor = c.args.floor in
    subst (IsRecorded g.F.JournalFile.has g.F.JournalFile.usable (λ state. after state (calls.Compact floor)) (λ _. did (Compact floor) ∷ []) (durable_of c.args.self.now.keeper c.args.self.now.journal))
    (ap (λ s. durable_of s.keeper s.journal) (sym (c.replace_large-replaced.ensures.left is))) c.in_ok-compact.ensures.recorded

pub returns-clause-every : goal.returns-clause-every
returns-clause-every g c = λ e n every some.
    let is : c.replace_large-replaced.result ≡ Ok false = c.of.ensures.left (cc e) in
    subst (λ d. d.journal.appender.waiting < n) (sym (c.replace_large-replaced.ensures.left is)) (c.in_ok-compact.ensures.every n every some)

pub returns-clause-small : goal.returns-clause-small
returns-clause-small g c = λ e state kept loose at.
    let has = g.F.JournalFile.has in
    let usable = g.F.JournalFile.usable in
    let is : c.replace_large-replaced.result ≡ Ok false = c.of.ensures.left (cc e) in
    let floor = c.args.floor in
    let later = λ (s : State). after s (calls.Compact floor) in
    let there = c.in_ok-compact.ensures.recorded state kept loose at in
    let small = c.replace_large-replaced.ensures.small is (later state) there.0 there.1 there.4 in
    let offset = offset_is has usable later (λ _. did (Compact floor) ∷ []) (durable_of c.args.self.now.keeper c.args.self.now.journal) (durable_of c.compact.new.self.keeper c.compact.new.self.journal) c.in_ok-compact.ensures.recorded c.in_ok-compact.ensures.same.0 state kept loose at in
    omega (arith, small, offset)

pub returns-clause-large : goal.returns-clause-large
returns-clause-large g c = λ e state kept loose at.
    let has = g.F.JournalFile.has in
    let usable = g.F.JournalFile.usable in
    let is : (c.replace_large-replaced.result ≡ Ok true) ⊎ (c.replace_large-replaced.result ≡ Err FileFault) =
    elim e [
      | inl whole ↦ inl (c.of.ensures.replaced (cc whole))
      | inr failed ↦ inr (c.of.ensures.failed FileFault (cc failed))
    ] in
    let floor = c.args.floor in
    let later = λ (s : State). after s (calls.Compact floor) in
    let there = c.in_ok-compact.ensures.recorded state kept loose at in
    let large = c.replace_large-replaced.ensures.large is (later state) there.0 there.1 there.4 in
    let offset = offset_is has usable later (λ _. did (Compact floor) ∷ []) (durable_of c.args.self.now.keeper c.args.self.now.journal) (durable_of c.compact.new.self.keeper c.compact.new.self.journal) c.in_ok-compact.ensures.recorded c.in_ok-compact.ensures.same.0 state kept loose at in
    omega (arith, large, offset)

pub returns-clause-replaced : goal.returns-clause-replaced
returns-clause-replaced g c = λ e.
    let is : c.replace_large-replaced.result ≡ Ok true = c.of.ensures.replaced (cc e) in
    let floor = c.args.floor in
    then_replaced g.F.JournalFile.has g.F.JournalFile.usable (λ state. after state (calls.Compact floor)) (λ _. did (Compact floor) ∷ []) (durable_of c.args.self.now.keeper c.args.self.now.journal) (durable_of c.compact.new.self.keeper c.compact.new.self.journal)
    c.in_ok-compact.ensures.recorded (durable_of c.replace_large-replaced.new.self.keeper c.replace_large-replaced.new.self.journal) (c.replace_large-replaced.ensures.replaced is)

pub returns-clause-goes_on : goal.returns-clause-goes_on
returns-clause-goes_on g c = λ x e goes.
    let is : c.replace_large-replaced.result ≡ Err x = c.of.ensures.failed x (cc e) in
    let floor = c.args.floor in
    still_recorded g.F.JournalFile.has g.F.JournalFile.usable (λ state. after state (calls.Compact floor)) (λ _. did (Compact floor) ∷ []) (durable_of c.args.self.now.keeper c.args.self.now.journal) (durable_of c.compact.new.self.keeper c.compact.new.self.journal)
    c.in_ok-compact.ensures.recorded (durable_of c.replace_large-replaced.new.self.keeper c.replace_large-replaced.new.self.journal) (IfErr-at_err _ is c.replace_large-replaced.ensures.goes_on goes)

pub returns-clause-either : goal.returns-clause-either
returns-clause-either g c = λ x e.
    let is : c.replace_large-replaced.result ≡ Err x = c.of.ensures.failed x (cc e) in
    let floor = c.args.floor in
    then_either g.F.JournalFile.has g.F.JournalFile.usable (λ state. after state (calls.Compact floor)) (λ _. did (Compact floor) ∷ []) (durable_of c.args.self.now.keeper c.args.self.now.journal) (durable_of c.compact.new.self.keeper c.compact.new.self.journal)
    c.in_ok-compact.ensures.recorded c.args.seed c.replace_large-replaced.new.self.journal.appender.file c.in_ok-compact.ensures.same.0 (IfErr-at_err _ is c.replace_large-replaced.ensures.either)

pub returns-clause-memory : goal.returns-clause-memory
returns-clause-memory g c = λ x e.
    let is : c.replace_large-replaced.result ≡ Err (Refused x) = c.of.ensures.failed (Refused x) (cc e) in
    let floor = c.args.floor in
    let same = IfErr-at_err _ is c.replace_large-replaced.ensures.untouched x refl in (
      IfErr-at_err _ is c.replace_large-replaced.ensures.refused x refl,
      subst (IsRecorded g.F.JournalFile.has g.F.JournalFile.usable (λ state. after state (calls.Compact floor)) (λ _. did (Compact floor) ∷ []) (durable_of c.args.self.now.keeper c.args.self.now.journal))
          (ap (λ s. durable_of s.keeper s.journal) (sym same)) c.in_ok-compact.ensures.recorded,
    )

pub returns-clause-failed : goal.returns-clause-failed
returns-clause-failed g c = λ e.
    let is : c.replace_large-replaced.result ≡ Err FileFault = c.of.ensures.failed FileFault (cc e) in
    let count = c.compact.ensures.count in
    elim (c.replace_large-replaced.ensures.fault is c.in_ok-compact.ensures.still) [
      | inl full ↦ inl full
      | inr more ↦ inr (omega (arith, more, count))
    ]

pub returns-clause-no_other_failure : goal.returns-clause-no_other_failure
returns-clause-no_other_failure g c = λ x e.
    let is : c.replace_large-replaced.result ≡ Err x = c.of.ensures.failed x (cc e) in
    IfErr-at_err _ is c.replace_large-replaced.ensures.no_other
