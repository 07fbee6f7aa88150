-- What was written where a run has ended.
use Rattle.std.proofs.Common.{◌≡◌, ◌⊎◌, ℕ, List, Option, Result, Ok, Err, refl, sym, subst, inl, inr}
use Rattle.std.specs.Prelude.{⊤, IfErr, OnOk}
use Rattle.kv_keys.specs.declared.error.KvError.{KvError}
use Rattle.kv_keys.specs.declared.error.KvError.TheVariants.{OutOfMemory, ReadFault, WriteFault}
use Rattle.kv_script.specs.declared.form.Form.{Form}
use Rattle.kv_replay.specs.Faults.{IsRunFault}
use Rattle.kv_replay.specs.Replaying.{RanFrom}
use Rattle.kv_replay.specs.Sessions.{Session}
use Rattle.kv_durable.specs.declared.error.DurableError.{DurableError}
use Rattle.kv_durable.specs.declared.error.DurableError.TheVariants.{Refused}
use Rattle.kv_durable_script.specs.Runs.{EndsBy, IsOutcome, IsUnclosed}

abbrev run_ok : Result ⊤ KvError
run_ok = Ok tt

abbrev run_err : KvError → Result ⊤ KvError
run_err x = Err x

module _ (form : Form) (session : Session) (unread left held holds : Option (List ℕ)) where
  abbrev Ran : Result ⊤ KvError → Type 0
  Ran run = RanFrom form session unread left held holds run

  abbrev By : DurableError → Type 0
  By e = EndsBy form session unread left held holds e

  by_fault : (x : KvError) → IsRunFault x → Ran (run_err x) → By (Refused x)
  by_fault OutOfMemory fault ran = inr (ran.memory refl)
  by_fault ReadFault fault ran = ran.read_fault refl
  by_fault WriteFault fault ran = ran.write_fault refl
  by_fault _ fault ran = absurd fault

  -- all was answered, and then the file failed, or memory ran out
  unclosed : (e : DurableError) → IsUnclosed e → Ran run_ok → By e
  unclosed e why ran = elim why [
    | inl file ↦ subst By (sym file) (inl ran.ok)
    | inr memory ↦ subst By (sym memory) (inl ran.ok)
  ]

  outcome : (run : Result ⊤ KvError) (e : DurableError) → IsOutcome run e → Ran run → By e
  outcome run e is ran = elim is [
    | inl file ↦ subst By (sym file.0) (elim file.1 [
      | inl all ↦ inl (subst Ran all ran).ok
      | inr some ↦ inr ((subst Ran some ran).memory refl)
    ])
    | inr other ↦ subst By (sym other.2) (by_fault other.0 (subst Ran other.1 ran).fault (subst Ran other.1 ran))
  ]

  -- how the run and the closing have ended
  pub ended : (run : Result ⊤ KvError) (told : Result ⊤ DurableError) (e : DurableError) → OnOk told (run ≡ Ok tt) → IfErr told (λ e. IsOutcome run e)
      → ((told ≡ Err e) ⊎ ((told ≡ Ok tt) × IsUnclosed e)) → Ran run → By e
  ended run (Ok done) e all is closing ran = elim closing [
    | inl failed ↦ absurd (let no : ⊥ = cc failed in no)
    | inr later ↦ unclosed e later.1 (subst Ran all ran)
  ]
  ended run (Err d) e all is closing ran = elim closing [
    | inl failed ↦ let same : d ≡ e = cc failed in subst By same (outcome run d is ran)
    | inr later ↦ absurd (let no : ⊥ = cc later.0 in no)
  ]
