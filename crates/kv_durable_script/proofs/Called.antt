-- Each call of a durable bucket keeps on.
use Rattle.std.proofs.Common.{◌≡◌, ℕ, Bool, true, false, cond, List, [], ◌∷◌, ◌++◌, Option, Some, None, Result, Ok, Err, refl, sym, ap, ◌∙◌, subst, inl, inr, append-nil}
use Rattle.std.specs.Prelude.{IfErr, IfOk, IsErrOf, IsOk, OnErr, OnOk}
use Rattle.kv_keys.specs.declared.error.KvError.{KvError}
use Rattle.kv_model.specs.Acts.{IsPrefix}
use Rattle.kv_model.specs.Given.{Item}
use Rattle.kv_model.specs.State.{State, Watch, after, after_item, after_stop, after_take, add_watch, has_room, next_of, open_at, opened}
use Rattle.kv_model.specs.declared.call.Call.TheVariants as calls
use Rattle.kv_model.specs.declared.options.Options.{Options}
use Rattle.kv_single.specs.Held.{Represents}
use Rattle.kv_journal.specs.Records.{Content}
use Rattle.kv_journal.specs.Entries.{acts_of}
use Rattle.kv_durable.specs.Bases.{Base, acts_before}
use Rattle.kv_durable.specs.Durables.{IsHanded, IsRecorded, IsRefusal}
use Rattle.kv_durable.specs.Journals.{Keeps, is_stopped, told_next}
use Rattle.kv_durable.specs.declared.durable.Durable.{Durable}
use Rattle.kv_durable.specs.declared.error.DurableError.{DurableError}
use Rattle.kv_durable.specs.declared.error.DurableError.TheVariants.{Refused, FileFault, FileDamaged, FileBusy, OtherBucket}
use Rattle.kv_durable.specs.declared.error.BatchError.{BatchError}
use Rattle.kv_durable.specs.declared.error.BatchError.TheVariants as batches
use Rattle.kv_model.specs.declared.batch.BatchRefused.{BatchRefused}
use Rattle.kv_durable.proofs.Living.{more_acts}
use Rattle.kv_durable.proofs.Recording.{added_kept, all_added}
use Rattle.kv_keys.specs.declared.error.KvError.TheVariants.{OutOfMemory}
use Rattle.kv_model.specs.Answers.{Answer}
use Rattle.kv_model.specs.declared.call.Call.{Call}
use Rattle.kv_single.specs.Stepping.{IsStep}
use Rattle.kv_durable_script.specs.Keeping.{KeepsOn, batch_told_as, keeps_on_itself, told_as}

-- ---- refusals

pub by_rules : (error : DurableError) → (told_as error ≡ OutOfMemory → ⊥) → error ≡ Refused (told_as error)
by_rules (Refused e) other = refl
by_rules FileFault other = absurd (other refl)
by_rules (FileDamaged at) other = absurd (other refl)
by_rules FileBusy other = absurd (other refl)
by_rules OtherBucket other = absurd (other refl)

pub only_memory : (error : DurableError) → ((x : KvError) → error ≡ Refused x → x ≡ OutOfMemory) → told_as error ≡ OutOfMemory
only_memory (Refused e) refused = refused e refl
only_memory FileFault refused = refl
only_memory (FileDamaged at) refused = refl
only_memory FileBusy refused = refl
only_memory OtherBucket refused = refl

pub batch_by_rules : (error : BatchError) → ((batch_told_as error).error ≡ OutOfMemory → ⊥) → error ≡ batches.Refused (batch_told_as error)
batch_by_rules (batches.Refused refused) other = refl
batch_by_rules batches.FileFault other = absurd (other refl)

-- ---- watches change no act

-- the states have the same acts and the same configuration
abbrev pub IsAsLate : State → State → Type 0
IsAsLate state later = (later.acts ≡ state.acts) × (later.config ≡ state.config)

item_handed : (number : ℕ) (s : State) (w : Watch) (item : Option Item) → IsAsLate s (after_item number s w item)
item_handed number s w None = (refl, refl)
item_handed number s w (Some item) = (refl, refl)

take_handed : (number : ℕ) (s : State) (watch : Option Watch) → IsAsLate s (after_take number s watch)
take_handed number s None = (refl, refl)
take_handed number s (Some w) = item_handed number s w (next_of s.config.history s.acts w)

pub taken : (number : ℕ) (s : State) → IsAsLate s (after s (calls.Take number))
taken number s = take_handed number s (open_at number s)

watch_stopped : (number : ℕ) (s : State) (watch : Option Watch) → IsAsLate s (after_stop number s watch)
watch_stopped number s None = (refl, refl)
watch_stopped number s (Some w) = (refl, refl)

pub stopped : (number : ℕ) (s : State) → IsAsLate s (after s (calls.Stop number))
stopped number s = watch_stopped number s (open_at number s)

watch_opened : (filters : List (List ℕ)) (options : Options) (s : State) (room : Bool) → IsAsLate s (cond room (add_watch (opened filters options s) s) s)
watch_opened filters options s true = (refl, refl)
watch_opened filters options s false = (refl, refl)

pub watched : (filters : List (List ℕ)) (options : Options) (s : State) → IsAsLate s (after s (calls.Watch filters options))
watched filters options s = watch_opened filters options s (has_room s)

module _ {F : Type 0} (has : F → List ℕ → List ℕ → Type 0) (usable : F → Bool) where
  -- ---- calls of watches

  pub watches_on : (later : State → State) (old new : Durable F) → ((state : State) → Represents state old.bucket → Represents (later state) new.bucket) → ((state : State) → IsAsLate state (later state))
      → new.journal ≡ old.journal → KeepsOn has usable old new
  watches_on later old new step late same = λ base state kept loose has_kept. record {
    later = later state;
    later_base = base;
    on_disk = kept;
    behind = loose;
    grown = ([], append-nil (acts_before base ++ acts_of kept));
    whole = ([], append-nil (acts_before base ++ acts_of (kept ++ loose)));
    based = inl (refl, ([], append-nil kept), ([], append-nil (kept ++ loose)));
    sync = rw same refl;
    each = λ each none. none;
    has_kept = record {
      config = has_kept.config ∙ sym (late state).1;
      represents = step state has_kept.represents;
      acts = (late state).0 ∙ has_kept.acts;
      file = rw same has_kept.file;
    };
  }

  pub same_on : (old new : Durable F) → new ≡ old → KeepsOn has usable old new
  same_on old new same = subst (KeepsOn has usable old) (sym same) (keeps_on_itself has usable old)

  -- a call of a watch that is one step, or has changed nothing
  pub stepped_on : {X E : Type 0} (result : Result X E) (call : Call) (answer : X → Answer) (old new : Durable F) → IfOk result (λ x. IsStep old.bucket call (answer x) new.bucket) → OnErr result (new ≡ old)
      → ((s : State) → IsAsLate s (after s call)) → new.journal ≡ old.journal → KeepsOn has usable old new
  stepped_on {X} {E} (Ok x) call answer old new step unchanged late same = watches_on (λ s. after s call) old new (λ s r. (step s r).1) late same
  stepped_on {X} {E} (Err e) call answer old new step unchanged late same = same_on old new unchanged

  -- ---- calls that are recorded

  module _ (later : State → State) (told : State → List Content) (old new : Durable F) where
    -- the call was answered
    pub recorded_on : IsRecorded has usable later told old new → (is_stopped usable old.journal ≡ true → ⊥) → new.journal.appender.sync ≡ old.journal.appender.sync → KeepsOn has usable old new
    recorded_on recorded goes same = λ base state kept loose has_kept. elim has_kept.file [
      | inl keeps ↦
          let there = recorded state kept loose (record { base = base; config = has_kept.config; represents = has_kept.represents; acts = has_kept.acts; keeps = keeps }) in
          let entries = told_next old.journal (told state) in
          let first = added_kept kept loose entries there.0 there.1 there.2 in
          let all : IsPrefix (kept ++ loose) (there.0 ++ there.1) = (entries, sym (all_added kept loose entries there.0 there.1 there.2)) in
          record {
            later = later state;
            later_base = base;
            on_disk = there.0;
            behind = there.1;
            grown = more_acts (acts_before base) kept there.0 first;
            whole = more_acts (acts_before base) (kept ++ loose) (there.0 ++ there.1) all;
            based = inl (refl, first, all);
            sync = same;
            each = λ each none. there.3 each;
            has_kept = record {
              config = ap (λ (b : Base). b.config) (sym there.5) ∙ there.4.config;
              represents = there.4.represents;
              acts = there.4.acts ∙ ap (λ (b : Base). acts_before b ++ acts_of (there.0 ++ there.1)) there.5;
              file = inl (subst (λ (b : Base). Keeps has usable b there.0 there.1 new.journal) there.5 there.4.keeps);
            };
          }
      | inr left ↦ absurd (goes left.0)
    ]

    -- the file failed
    pub handed_on : IsHanded has usable told old new → new.bucket ≡ old.bucket → is_stopped usable new.journal ≡ true → (is_stopped usable old.journal ≡ true → new ≡ old)
        → new.journal.appender.sync ≡ old.journal.appender.sync → KeepsOn has usable old new
    handed_on handed bucket stops stopped same = λ base state kept loose has_kept. elim has_kept.file [
      | inl keeps ↦ record {
        later = state;
        later_base = base;
        on_disk = kept;
        behind = loose;
        grown = ([], append-nil (acts_before base ++ acts_of kept));
        whole = ([], append-nil (acts_before base ++ acts_of (kept ++ loose)));
        based = inl (refl, ([], append-nil kept), ([], append-nil (kept ++ loose)));
        sync = same;
        each = λ each none. none;
        has_kept = record {
          config = has_kept.config;
          represents = subst (Represents state) (sym bucket) has_kept.represents;
          acts = has_kept.acts;
          file = inr (
            stops,
            (
              old.journal.framing.seed,
              told_next old.journal (told state),
              handed state kept loose (record { base = base; config = has_kept.config; represents = has_kept.represents; acts = has_kept.acts; keeps = keeps }),
            ),
          );
        };
      }
      | inr left ↦ same_on old new (stopped left.0) base state kept loose has_kept
    ]

    -- the call has ended in one of these ways, or the rules or memory refused it, and nothing has changed
    pub called_on : {X : Type 0} (result : Result X DurableError) → OnOk result (IsRecorded has usable later told old new) → IfErr result (λ e. (x : KvError) → e ≡ Refused x → new ≡ old)
        → OnErr result (new.bucket ≡ old.bucket) → OnErr result (IsHanded has usable told old new) → (IsErrOf result FileFault → is_stopped usable new.journal ≡ true)
        → (is_stopped usable old.journal ≡ true → (result ≡ Err FileFault) × (new ≡ old)) → IfErr result IsRefusal
        → new.journal.appender.sync ≡ old.journal.appender.sync → KeepsOn has usable old new
    called_on {X} (Ok x) recorded untouched bucket handed stops stopped no_other same = recorded_on recorded (λ is. let no : ⊥ = cc (stopped is).0 in no) same
    called_on {X} (Err (Refused e)) recorded untouched bucket handed stops stopped no_other same = same_on old new (untouched e refl)
    called_on {X} (Err FileFault) recorded untouched bucket handed stops stopped no_other same = handed_on handed bucket (stops refl) (λ is. (stopped is).1) same
    called_on {X} (Err (FileDamaged at)) recorded untouched bucket handed stops stopped no_other same = absurd no_other
    called_on {X} (Err FileBusy) recorded untouched bucket handed stops stopped no_other same = absurd no_other
    called_on {X} (Err OtherBucket) recorded untouched bucket handed stops stopped no_other same = absurd no_other

    -- the same of a batch of some requests
    module _ {R : Type 0} (requests : List R) where
      pub batched_on : {X : Type 0} (result : Result X BatchError) → (requests ≡ [] → IsOk result × (new ≡ old)) → OnOk result ((requests ≡ [] → ⊥) → IsRecorded has usable later told old new)
          → IfErr result (λ e. (x : BatchRefused) → e ≡ batches.Refused x → new ≡ old)
          → OnErr result (new.bucket ≡ old.bucket) → OnErr result (IsHanded has usable told old new) → (IsErrOf result batches.FileFault → is_stopped usable new.journal ≡ true)
          → ((requests ≡ [] → ⊥) → is_stopped usable old.journal ≡ true → (result ≡ Err batches.FileFault) × (new ≡ old))
          → new.journal.appender.sync ≡ old.journal.appender.sync → KeepsOn has usable old new
      batched_on {X} result none recorded untouched bucket handed stops stopped same = by requests refl
        where
          some : (ws : List R) (r : Result X BatchError) → result ≡ r → (requests ≡ [] → ⊥) → KeepsOn has usable old new
          some ws (Ok x) is filled = recorded_on (subst (λ (r : Result X BatchError). OnOk r ((requests ≡ [] → ⊥) → IsRecorded has usable later told old new)) is recorded filled) (λ stop. let no : ⊥ = cc ((stopped filled stop).0, is) in no) same
          some ws (Err (batches.Refused e)) is filled = same_on old new (subst (λ (r : Result X BatchError). IfErr r (λ e. (x : BatchRefused) → e ≡ batches.Refused x → new ≡ old)) is untouched e refl)
          some ws (Err batches.FileFault) is filled =
              handed_on (subst (λ (r : Result X BatchError). OnErr r (IsHanded has usable told old new)) is handed) (subst (λ (r : Result X BatchError). OnErr r (new.bucket ≡ old.bucket)) is bucket) (stops is)
              (λ stop. (stopped filled stop).1) same

          by : (ws : List R) → requests ≡ ws → KeepsOn has usable old new
          by [] is = same_on old new (none is).1
          by (w ∷ ws) is = some ws result refl (λ empty. let no : ⊥ = cc (is, empty) in no)
