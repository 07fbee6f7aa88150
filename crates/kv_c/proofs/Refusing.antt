-- The number of a refusal is that of the outcome that the rules give, but for want of memory.
use Rattle.std.proofs.Common.{◌≡◌, ℕ, refl, ap, sym, subst, inl, inr, arith}
use Rattle.std.specs.Prelude.{Result, Ok, Err}
use Rattle.kv_c.proofs.Named.{no_refusal}
use Rattle.kv_c.specs.Codes.{IsOfFile, IsOpeningCode, accepted, code_by}
use Rattle.kv_durable.specs.Refusals.{IsDamaged, durable_code}
use Rattle.kv_durable.specs.declared.error.DurableError.{DurableError}
use Rattle.kv_durable.specs.declared.error.DurableError.TheVariants.{Refused, FileFault, FileDamaged, FileBusy, OtherBucket}
use Rattle.kv_model.specs.Answers.{Compacted}
use Rattle.kv_model.specs.State.{answer_compact}
use Rattle.kv_keys.specs.Outcome.{Refuses}
use Rattle.kv_keys.specs.Refusals.{code_of}
use Rattle.kv_keys.specs.declared.error.KvError.{KvError}
use Rattle.kv_keys.specs.declared.error.KvError.TheVariants.{OutOfMemory, WrongLastRevision, WatchBehind}
use Rattle.kv_model.specs.Configuration.{Configuration, configure}

-- a refusal that is none of memory is the outcome
pub outcome_of : {X : Type 0} (e : KvError) (outcome : Result X KvError) → Refuses e outcome → ¬ (code_of e ≡ 1) → outcome ≡ Err e
outcome_of OutOfMemory outcome refuses other = absurd (other refl)
outcome_of _ outcome refuses other = refuses

-- and so the code is that of the outcome
pub code_from : {X : Type 0} (code : X → ℕ) (e : KvError) (outcome : Result X KvError) → Refuses e outcome → ¬ (code_of e ≡ 1) → code_of e ≡ code_by code outcome
code_from code e outcome refuses other = sym (ap (code_by code) (outcome_of e outcome refuses other))

memory : (e : KvError) → code_of e ≡ 1 → e ≡ OutOfMemory
memory OutOfMemory one = refl
memory _ one = cc

-- the same of a configuration
pub configured_or : (e : KvError) (config : Configuration) → Refuses e (configure config) → ¬ (e ≡ OutOfMemory) → configure config ≡ Err e
configured_or e config refuses other = outcome_of e (configure config) refuses (λ one. other (memory e one))

-- no refusal of the rules has the code of a file's fault, or that of a call that was made
pub no_fault : (e : KvError) → ¬ (code_of e ≡ 22)
no_fault e is = no_refusal 22 (λ h. omega (arith, h.1)) e is

pub not_made : (e : KvError) → ¬ (code_of e ≡ 38)
not_made e is = no_refusal 38 (λ h. omega (arith, h.1)) e is

-- what a refusal tells, the outcome tells
pub told_last : {X : Type 0} (e : KvError) (last : ℕ) (outcome : Result X KvError) → Refuses e outcome → e ≡ WrongLastRevision last → outcome ≡ Err (WrongLastRevision last)
told_last e last outcome refuses is = subst (λ (x : KvError). Refuses x outcome) is refuses

pub told_watch : {X : Type 0} (e : KvError) (watch : ℕ) (outcome : Result X KvError) → Refuses e outcome → e ≡ WatchBehind watch → outcome ≡ Err (WatchBehind watch)
told_watch e watch outcome refuses is = subst (λ (x : KvError). Refuses x outcome) is refuses

pub code_memory : (e : KvError) → ¬ (code_of e ≡ 1) → ¬ (e ≡ OutOfMemory)
code_memory e other one = other (ap code_of one)

-- a compaction that was answered was accepted
pub compacted_from : (outcome : Result ℕ KvError) (floor : ℕ) → answer_compact outcome ≡ Compacted floor → code_by accepted outcome ≡ 0
compacted_from (Ok n) floor answered = refl
compacted_from (Err e) floor answered = cc

-- the code of an opening's refusal is that of the configuration, or by the file
pub opening_code : (e : DurableError) (config : Configuration) (outcome : Result Configuration KvError) → ((x : KvError) → e ≡ Refused x → ¬ (x ≡ OutOfMemory) → outcome ≡ Err x) → (IsOfFile e → outcome ≡ Ok config) → ¬ (durable_code e ≡ 1) → IsOpeningCode (durable_code e) outcome
opening_code (Refused x) config outcome denied legal other = subst (IsOpeningCode (code_of x)) (sym (denied x refl (code_memory x other))) refl
opening_code FileFault config outcome denied legal other = subst (IsOpeningCode 22) (sym (legal tt)) (inr (omega arith, omega arith))
opening_code (FileDamaged at) config outcome denied legal other = subst (IsOpeningCode 23) (sym (legal tt)) (inr (omega arith, omega arith))
opening_code FileBusy config outcome denied legal other = subst (IsOpeningCode 24) (sym (legal tt)) (inr (omega arith, omega arith))
opening_code OtherBucket config outcome denied legal other = subst (IsOpeningCode 25) (sym (legal tt)) (inr (omega arith, omega arith))

pub opened_code : (config : Configuration) (outcome : Result Configuration KvError) → outcome ≡ Ok config → IsOpeningCode 38 outcome
opened_code config outcome legal = subst (IsOpeningCode 38) (sym legal) (inl refl)

-- the codes of damage and of another bucket's file tell these
pub damaged_code : (e : DurableError) → durable_code e ≡ 23 → IsDamaged e
damaged_code (Refused x) is = absurd (no_refusal 23 (λ h. omega (arith, h.1)) x is)
damaged_code FileFault is = absurd (omega (arith, is))
damaged_code (FileDamaged at) is = tt
damaged_code FileBusy is = absurd (omega (arith, is))
damaged_code OtherBucket is = absurd (omega (arith, is))

pub other_code : (e : DurableError) → durable_code e ≡ 25 → e ≡ OtherBucket
other_code (Refused x) is = absurd (no_refusal 25 (λ h. omega (arith, h.1)) x is)
other_code FileFault is = absurd (omega (arith, is))
other_code (FileDamaged at) is = absurd (omega (arith, is))
other_code FileBusy is = absurd (omega (arith, is))
other_code OtherBucket is = refl
