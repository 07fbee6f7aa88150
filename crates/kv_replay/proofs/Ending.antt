-- Why a run ends early, and what it did where nothing was read.
use Rattle.std.proofs.Common.{◌≡◌, ◌⊎◌, Bool, true, false, true≢false, cond, List, [], ℕ, Option, Result, Ok, Err, refl, sym, ap, subst, inl, inr}
use Rattle.std.specs.Prelude.{⊤, IsOk, IsErr, IfErr, OnOk}
use Rattle.std.specs.Result.{IsErrAnd}
use Rattle.std.proofs.KnownBytes.{Consumes-nil, Appends-nil}
use Rattle.std.proofs.lemmas.Result.{IfErr-weaker}
use Rattle.kv_keys.specs.Grammar.{is_name}
use Rattle.kv_keys.specs.Outcome.{Refuses}
use Rattle.kv_keys.specs.declared.error.KvError.{KvError}
use Rattle.kv_keys.specs.declared.error.KvError.TheVariants.{OutOfMemory, BadBucket, BadConfig, ReadFault, WriteFault}
use Rattle.kv_script.specs.declared.form.Form.{Form}
use Rattle.kv_replay.specs.Faults.{IsRunFault, EndsRun}
use Rattle.kv_replay.specs.Replaying.{Ran, RanFrom}
use Rattle.kv_replay.specs.Sessions.{Session, fresh, script_text, text_from}
use Rattle.kv_replay.proofs.Progress.{starts}
use Rattle.kv_model.specs.Configuration.{Configuration, configure, has_legal_numbers}

-- want of memory or a failed device, under a legal configuration
pub ends_run : {X : Type 0} (e : KvError) (outcome : Result X KvError) → IsRunFault e → IsOk outcome → EndsRun e outcome
ends_run {X} OutOfMemory outcome fault legal = legal
ends_run {X} ReadFault outcome fault legal = legal
ends_run {X} WriteFault outcome fault legal = legal
ends_run {X} _ outcome fault legal = absurd fault

-- a refusal is want of memory, or the one that the rules give
pub by_cause : {X : Type 0} (e : KvError) (outcome : Result X KvError) → Refuses e outcome → ((e ≡ OutOfMemory) × IsOk outcome) ⊎ (outcome ≡ Err e)
by_cause {X} OutOfMemory outcome h = inl (refl, h)
by_cause {X} _ outcome h = inr h

unfoldable pub error_of : {X : Type 0} → KvError → Result X KvError → KvError
error_of {X} d (Ok x) = d
error_of {X} d (Err e) = e

abbrev refused : KvError → Result Configuration KvError
refused e = Err e

-- the rules refuse a configuration as BadBucket or as BadConfig, and as nothing else
ends_refused : (config : Configuration) (named numbers : Bool) (e : KvError) → cond named (cond numbers (Ok config) (Err BadConfig)) (Err BadBucket) ≡ Err e
    → EndsRun e (cond named (cond numbers (Ok config) (Err BadConfig)) (Err BadBucket))
unfolding error_of
ends_refused config true true e h = absurd (true≢false (sym (subst IsOk h refl)))
ends_refused config true false e h = subst (λ x. EndsRun x (refused BadConfig)) (ap (error_of e) h) refl
ends_refused config false numbers e h = subst (λ x. EndsRun x (refused BadBucket)) (ap (error_of e) h) refl

pub ends_opening : (config : Configuration) (e : KvError) → Refuses e (configure config) → EndsRun e (configure config)
ends_opening config e h = elim (by_cause e (configure config) h) [
  | inl memory ↦ subst (λ x. EndsRun x (configure config)) (sym memory.0) memory.1
  | inr cause ↦ ends_refused config (is_name config.bucket) (has_legal_numbers config) e cause
]

-- nothing was read, and nothing was written
pub nothing_done : (form : Form) (config : Configuration) (unread held : Option (List ℕ)) (result : Result ⊤ KvError) → IsErr result → IfErr result (λ e. EndsRun e (configure config)) → Ran form config unread unread held held result
nothing_done form config unread held (Ok done) bad fault = absurd (true≢false (sym bad))
nothing_done form config unread held (Err e) bad fault = record {
  ok = tt;
  read_fault = λ _. record { input = []; read = Consumes-nil unread; written = Appends-nil held };
  write_fault = λ _. record { input = []; read = Consumes-nil unread; text = []; begins = starts (script_text form config []) [] (script_text form config []) refl; written = Appends-nil held };
  memory = λ _. record { input = []; read = Consumes-nil unread; text = []; begins = starts (script_text form config []) [] (script_text form config []) refl; whole = inl refl; written = Appends-nil held };
  legal = tt;
  fault = fault;
}

-- what is known of an error that is handed on
pub handed_on : (result : Result ⊤ KvError) (e : KvError) (P : KvError → Type 0) → IsErrAnd result (λ x. x ≡ e) → P e → IfErr result P
handed_on (Ok done) e P is p = tt
handed_on (Err x) e P is p = subst P (sym is) p

-- what holds anyway holds after a success
pub on_ok : {P : Type 0} (result : Result ⊤ KvError) → P → OnOk result P
on_ok {P} (Ok done) p = p
on_ok {P} (Err e) p = tt

-- nothing was read, and nothing was written, of a run that begins in a session
pub nothing_done_from : (form : Form) (session : Session) (unread held : Option (List ℕ)) (result : Result ⊤ KvError) → IsErr result → IfErr result IsRunFault → RanFrom form session unread unread held held result
nothing_done_from form session unread held (Ok done) bad fault = absurd (true≢false (sym bad))
nothing_done_from form session unread held (Err e) bad fault = record {
  ok = tt;
  read_fault = λ _. record { input = []; read = Consumes-nil unread; written = Appends-nil held };
  write_fault = λ _. record { input = []; read = Consumes-nil unread; text = []; begins = starts (text_from form session []) [] (text_from form session []) refl; written = Appends-nil held };
  memory = λ _. record { input = []; read = Consumes-nil unread; text = []; begins = starts (text_from form session []) [] (text_from form session []) refl; whole = inl refl; written = Appends-nil held };
  fault = fault;
}

-- a run on a new bucket, of a legal configuration
pub ran_new : (form : Form) (config : Configuration) (unread left held holds : Option (List ℕ)) (result : Result ⊤ KvError) → configure config ≡ Ok config → RanFrom form (fresh config) unread left held holds result → Ran form config unread left held holds result
ran_new form config unread left held holds result legal ran = record {
  ok = ran.ok;
  read_fault = ran.read_fault;
  write_fault = ran.write_fault;
  memory = ran.memory;
  legal = on_ok result legal;
  fault = IfErr-weaker result _ _ (λ e fault. ends_run e (configure config) fault (subst IsOk (sym legal) refl)) ran.fault;
}
