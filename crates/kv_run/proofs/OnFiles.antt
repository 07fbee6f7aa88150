-- What runs on files did.
use Rattle.std.proofs.Common.{◌≡◌, ◌⊎◌, inl, inr, ℕ, List, Option, Result, Ok, Err, ap, subst}
use Rattle.std.specs.Prelude.{⊤, IfErr, IsErrOf, OnOk}
use Rattle.kv_keys.specs.declared.error.KvError.TheVariants.{ReadFault, WriteFault}
use Rattle.std.specs.Io.KnownBytes.{Appends}
use Rattle.std.proofs.lemmas.Result.{on_ok_weaker}
use Rattle.kv_model.specs.Acceptance.{IsLawful}
use Rattle.kv_model.specs.Acts.{Act}
use Rattle.kv_model.specs.Configuration.{Configuration, IsLegal}
use Rattle.kv_model.specs.State.{State}
use Rattle.kv_single.specs.Held.{Bucketed, Represents}
use Rattle.kv_script.specs.declared.form.Form.{Form}
use Rattle.kv_replay.specs.Outcome.{Replays}
use Rattle.kv_replay.specs.Sessions.{outside, text_from, whole_from}
use Rattle.kv_durable.specs.Durables.{state_of}
use Rattle.kv_durable.specs.declared.error.DurableError.{DurableError}
use Rattle.kv_durable.specs.declared.error.DurableError.TheVariants.{Refused}
use Rattle.kv_durable_script.specs.Runs.{EndsBy}
use Rattle.kv_durable_script.specs.Scripts.{CanBeScript, IsScript}
use Rattle.kv_durable_script.proofs.Scripting.{can_be_script}
use Rattle.kv_run.specs.Files.{IsDumped, IsRunOn, RunEndsBy}
use Rattle.kv_run.specs.Telling.{torn_text}

-- acts that a bucket is behind are lawful under its configuration, and that is legal
legal_behind : (config : Configuration) (acts : List Act) (bucket : Bucketed) → Represents (state_of config acts) bucket → IsLegal config
legal_behind config acts bucket represents = subst (λ (c : Configuration). IsLegal c) represents.config represents.version.legal

lawful_behind : (config : Configuration) (acts : List Act) (bucket : Bucketed) → Represents (state_of config acts) bucket → IsLawful config acts
lawful_behind config acts bucket represents = subst (λ (c : Configuration). IsLawful c acts) represents.config represents.version.lawful

-- a run from whatever state a bucket represents is one on the bucket of acts
pub run_on_acts : (form same_form : Form) (config same_config : Configuration) (acts : List Act) (bucket same_bucket : Bucketed)
    (unread same_unread left same_left held holds : Option (List ℕ)) (result : Result ⊤ DurableError)
    → form ≡ same_form → config ≡ same_config → bucket ≡ same_bucket → unread ≡ same_unread → left ≡ same_left
    → Represents (state_of config acts) bucket
    → OnOk result ((state : State) → Represents state same_bucket → Replays (text_from form (outside state)) (whole_from form (outside state)) unread left held holds)
    → OnOk result (IsRunOn same_form same_config same_unread same_left held holds)
run_on_acts form same_form config same_config acts bucket same_bucket unread same_unread left same_left held holds result f c b u l represents ran =
    let there : Represents (state_of config acts) same_bucket = subst (λ x. Represents (state_of config acts) x) b represents in
    let run : OnOk result (IsRunOn form config unread left held holds) = on_ok_weaker result (λ all. (legal_behind config acts same_bucket there, acts, lawful_behind config acts same_bucket there, all (state_of config acts) there)) ran in
    subst (λ x. OnOk result (IsRunOn x same_config same_unread same_left held holds)) f
    (subst (λ x. OnOk result (IsRunOn form x same_unread same_left held holds)) c
    (subst (λ x. OnOk result (IsRunOn form config x same_left held holds)) u
    (subst (λ x. OnOk result (IsRunOn form config unread x held holds)) l run)))

-- what holds anyway holds of a success
pub on_ok : {P : Type 0} (r : Result ⊤ DurableError) → P → OnOk r P
on_ok {P} (Ok done) p = p
on_ok {P} (Err e) p = tt

-- the script of the bytes of a file was written
pub dumped_of : (config same_config : Configuration) (bytes text : List ℕ) (held holds : Option (List ℕ)) (result : Result ⊤ DurableError)
    → IsScript config bytes text → Appends held holds text → config ≡ same_config → IsLegal same_config → OnOk result (IsDumped same_config held holds)
dumped_of config same_config bytes text held holds result script written c legal = on_ok result (legal, text, subst (λ x. CanBeScript x text) c (can_be_script config bytes text script), written)

-- a run that ended early from whatever state a bucket represents did so on the bucket of acts
pub run_ended : {ReaderFailed WriterFailed : Type 0} (form same_form : Form) (config same_config : Configuration) (acts : List Act) (bucket same_bucket : Bucketed)
    (unread same_unread left same_left held holds : Option (List ℕ)) (result : Result ⊤ DurableError)
    → form ≡ same_form → config ≡ same_config → bucket ≡ same_bucket → unread ≡ same_unread → left ≡ same_left
    → Represents (state_of config acts) bucket
    → IfErr result (λ e. (state : State) → Represents state same_bucket → EndsBy form (outside state) unread left held holds e)
    → (IsErrOf result (Refused ReadFault) → ReaderFailed) → (IsErrOf result (Refused WriteFault) → WriterFailed)
    → IfErr result (λ e. RunEndsBy same_form same_config same_unread same_left held holds ReaderFailed WriterFailed e)
run_ended {ReaderFailed} {WriterFailed} form same_form config same_config acts bucket same_bucket unread same_unread left same_left held holds (Ok done) f c b u l represents ran read write = tt
run_ended {ReaderFailed} {WriterFailed} form same_form config same_config acts bucket same_bucket unread same_unread left same_left held holds (Err e) f c b u l represents ran read write =
    let there : Represents (state_of config acts) same_bucket = subst (λ x. Represents (state_of config acts) x) b represents in
    let ends : RunEndsBy form config unread left held holds ReaderFailed WriterFailed e = (
      (legal_behind config acts same_bucket there, acts, lawful_behind config acts same_bucket there, ran (state_of config acts) there),
      (λ is. read (ap Err is), λ is. write (ap Err is)),
    ) in
    subst (λ x. RunEndsBy x same_config same_unread same_left held holds ReaderFailed WriterFailed e) f
    (subst (λ x. RunEndsBy form x same_unread same_left held holds ReaderFailed WriterFailed e) c
    (subst (λ x. RunEndsBy form config x same_left held holds ReaderFailed WriterFailed e) u
    (subst (λ x. RunEndsBy form config unread x held holds ReaderFailed WriterFailed e) l ends)))

pub some_torn : {Failed : Type 0} (what path : List ℕ) (torn : ℕ) (told tells : Option (List ℕ)) → Appends told tells (torn_text what torn path) ⊎ Failed
    → ((torn : ℕ) × Appends told tells (torn_text what torn path)) ⊎ Failed
some_torn {Failed} what path torn told tells line = elim line [
  | inl all ↦ inl (torn, all)
  | inr failed ↦ inr failed
]
