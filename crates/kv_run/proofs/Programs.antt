-- What a run that ended early says of the program.
use Rattle.std.proofs.Common.{◌≡◌, ◌⊎◌, ℕ, List, [], Option, Result, Err, sym, ap, subst, inl, inr, ◌∙◌}
use Rattle.std.specs.Prelude.{⊤, IsErrOf}
use Rattle.clap.specs.Kinds.{HasKind, IsAmong, Kinds}
use Rattle.clap.specs.Values.{kind_of}
use Rattle.clap.specs.declared.error.Error.{Error}
use Rattle.clap.specs.declared.error.kind.ErrorKind.{ErrorKind}
use Rattle.clap.specs.declared.error.kind.ErrorKind.TheVariants.{OutOfMemory as NoMemory}
use Rattle.kv_keys.specs.declared.error.KvError.{KvError}
use Rattle.kv_keys.specs.declared.error.KvError.TheVariants.{OutOfMemory, ReadFault, WriteFault}
use Rattle.kv_model.specs.Configuration.{Configuration}
use Rattle.kv_script.specs.declared.form.Form.{Form}
use Rattle.kv_replay.specs.Faults.{IsBadConfiguration}
use Rattle.kv_run.specs.Arguments.{Wanted}
use Rattle.kv_run.specs.Programs.{EndsBy, IsRefusedBy, RanAs, status_of}
use Rattle.kv_run.proofs.Statuses.{run_refused, status_two}

-- a kind that is not want of memory is among those that may come
pub among : (kinds : Kinds) (error : Error) (kind : ErrorKind) → kind_of error ≡ kind → (kind ≡ NoMemory → ⊥) → HasKind kinds error → IsAmong kind kinds
among kinds error kind is other has = elim has [
  | inl memory ↦ absurd (other (sym is ∙ memory))
  | inr found ↦ subst (λ k. IsAmong k kinds) is found
]

-- a run that ended by an error
abbrev failed : KvError → Result ⊤ KvError
failed e = Err e

same_error : (e d : KvError) → IsErrOf (failed e) d → e ≡ d
same_error e d h = cc

module _ (kinds : Kinds) (form : Form) (race : Option ℕ) (config : Configuration) (unread left held holds : Option (List ℕ)) (e : KvError) (Same : Type 0)
    (ended : RanAs form race config unread left held holds (failed e) ⊎ (IsErrOf (failed e) OutOfMemory × Same)) (fine : kinds ≡ []) where
  pub ends_by : (ReaderFailed WriterFailed : Type 0) → (Same → (left ≡ unread) × (holds ≡ held)) → (IsErrOf (failed e) ReadFault → ReaderFailed) → (IsErrOf (failed e) WriteFault → WriterFailed)
      → status_of e ≡ 1 → EndsBy kinds form race config unread left held holds ReaderFailed WriterFailed e
  ends_by ReaderFailed WriterFailed kept read_fault write_fault one = elim ended [
    | inl ran ↦ inl (fine, ((ran, one), (λ is. read_fault (ap Err is), λ is. write_fault (ap Err is))))
    | inr lacks ↦ inr (inr (same_error e OutOfMemory lacks.0, kept lacks.1))
  ]

  pub refused_by : status_of e ≡ 2 → IsRefusedBy kinds race config e
  refused_by two = elim ended [
    | inl ran ↦ (fine, run_refused form race config unread left held holds e ran two)
    | inr lacks ↦ absurd (subst IsBadConfiguration (same_error e OutOfMemory lacks.0) (status_two e two))
  ]

-- what ended the run under what the words are found to ask for, did so under what they ask for
pub ends_as_wanted : (kinds : Kinds) (found wanted : Wanted) (unread left held holds : Option (List ℕ)) (e : KvError) (Same ReaderFailed WriterFailed : Type 0) → found ≡ wanted
    → RanAs found.form found.race found.config unread left held holds (failed e) ⊎ (IsErrOf (failed e) OutOfMemory × Same) → kinds ≡ []
    → (Same → (left ≡ unread) × (holds ≡ held)) → (IsErrOf (failed e) ReadFault → ReaderFailed) → (IsErrOf (failed e) WriteFault → WriterFailed) → status_of e ≡ 1
    → EndsBy kinds wanted.form wanted.race wanted.config unread left held holds ReaderFailed WriterFailed e
ends_as_wanted kinds found wanted unread left held holds e Same ReaderFailed WriterFailed is ended fine kept read_fault write_fault one =
    subst (λ (w : Wanted). EndsBy kinds w.form w.race w.config unread left held holds ReaderFailed WriterFailed e) is
    (ends_by kinds found.form found.race found.config unread left held holds e Same ended fine ReaderFailed WriterFailed kept read_fault write_fault one)
