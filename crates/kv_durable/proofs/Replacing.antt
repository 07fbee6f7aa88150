-- A journal whose file is replaced.
use Rattle.std.proofs.Common.{◌≡◌, ◌⊎◌, ℕ, Bool, true, false, List, [], Result, OnErr, length, refl, sym, ap, ◌∙◌, subst, append-nil, inl, inr}
use Rattle.std.proofs.lemmas.Bool.{true≢false}
use Rattle.std.proofs.lemmas.Result.{on_err_weaker}
use Rattle.kv_file.specs.Bytes.{Has}
use Rattle.kv_file.specs.declared.replace.ReplaceFault.{ReplaceFault}
use Rattle.kv_file.specs.declared.replace.ReplaceFault.TheVariants.{Unchanged, Unknown}
use Rattle.kv_frames.specs.Frames.{ArePayloads}
use Rattle.kv_model.specs.Acceptance.{IsLawful}
use Rattle.kv_model.specs.Acts.{Act}
use Rattle.kv_model.specs.Configuration.{Configuration}
use Rattle.kv_model.specs.State.{State}
use Rattle.kv_single.specs.Held.{Represents}
use Rattle.kv_store.specs.Standing.{StandsFor}
use Rattle.kv_store.specs.Stored.{Stored}
use Rattle.kv_journal.specs.Entries.{Entry}
use Rattle.kv_durable.specs.Bases.{Base, IsLawfulBase, base_payloads, opening, opening_size, replaced_by}
use Rattle.kv_durable.specs.Durables.{IsAt, checkpoint_at}
use Rattle.kv_durable.specs.Files.{file_of, frames_behind}
use Rattle.kv_durable.specs.Journals.{HasEntries, Keeps, is_stopped}
use Rattle.kv_durable.specs.declared.durable.Durable.{Durable}
use Rattle.kv_durable.specs.declared.error.DurableError.{DurableError}
use Rattle.kv_durable.specs.declared.journal.Journal.{Journal}

pub by_fault : {P : Type 0} (fault : ReplaceFault) → (fault ≡ Unchanged → P) → (fault ≡ Unknown → P) → P
by_fault Unchanged here there = here refl
by_fault Unknown here there = there refl

module _ {F : Type 0} (has : F → List ℕ → List ℕ → Type 0) (usable : F → Bool) where
  pub begins : (base : Base) (file : F) (seed offset : ℕ) (bytes : List ℕ) (new : Journal F) → bytes ≡ opening seed base → offset ≡ length bytes → has file bytes []
      → (has file (file_of seed base []) [] → offset ≡ length (file_of seed base []) → Keeps has usable base [] [] new) → Keeps has usable base [] [] new
  begins base file seed offset bytes new is long there on =
      let whole : bytes ≡ file_of seed base [] = is ∙ sym (append-nil (opening seed base)) in
      on (subst (λ (w : List ℕ). has file w []) whole there) (long ∙ ap length whole)

  pub same_file : (base : Base) (kept loose : List Entry) (old new : Journal F) → new.framing ≡ old.framing → Keeps has usable base kept loose new → HasEntries has old.framing.seed base kept loose new.appender.file
  same_file base kept loose old new same keeps = subst (λ (n : ℕ). HasEntries has n base kept loose new.appender.file) (ap (λ f. f.seed) same) keeps.bytes.file

  pub either_file : (was base : Base) (kept loose : List Entry) (old : Journal F) (file : F) (seed : ℕ) (bytes : List ℕ) → Keeps has usable was kept loose old → bytes ≡ opening seed base
      → ((k l : List ℕ) → Has has usable k l old.appender → has file k l ⊎ has file bytes []) → HasEntries has old.framing.seed was kept loose file ⊎ HasEntries has seed base [] [] file
  either_file was base kept loose old file seed bytes keeps is on =
      elim (on (file_of old.framing.seed was kept) (frames_behind old.framing.seed was kept loose) keeps.bytes) [
        | inl there ↦ inl there
        | inr there ↦ inr (subst (λ (w : List ℕ). has file w []) (is ∙ sym (append-nil (opening seed base))) there)
      ]

  -- the version that is written is that of the bucket
  module _ (version : Stored) (old : Durable F) (own : version ≡ old.bucket.version) (state : State) (ks ls : List Entry) (at : IsAt has usable state ks ls old) where
    stands : StandsFor state.acts version
    stands = subst (StandsFor state.acts) (sym own) at.represents.version

    config : version.config ≡ at.base.config
    config = ap (λ (v : Stored). v.config) own ∙ at.represents.config ∙ sym at.config

    -- what holds of what replaces the entries of each journal holds of the checkpoint
    pub by_checkpoint : (P : Base → Type 0) → ((was : Base) (kept loose : List Entry) (acts : List Act) → Keeps has usable was kept loose old.journal → StandsFor acts version → version.config ≡ was.config → P (replaced_by was.config acts))
        → P (checkpoint_at state)
    by_checkpoint P on = subst (λ (c : Configuration). P (replaced_by c state.acts)) at.config (on at.base ks ls state.acts at.keeps stands config)

    pub is_replaced : (new : Durable F) → new.bucket ≡ old.bucket
        → ((was : Base) (kept loose : List Entry) (acts : List Act) → Keeps has usable was kept loose old.journal → StandsFor acts version → version.config ≡ was.config → Keeps has usable (replaced_by was.config acts) [] [] new.journal)
        → (next : IsAt has usable state [] [] new) × (next.base ≡ checkpoint_at state)
    is_replaced new bucket on = (
      record {
        base = checkpoint_at state;
        config = refl;
        represents = subst (Represents state) (sym bucket) at.represents;
        acts = sym (append-nil state.acts);
        keeps = by_checkpoint (λ (base : Base). Keeps has usable base [] [] new.journal) on;
      },
      refl,
    )

    pub is_left : (file : F) (seed : ℕ) → ((was : Base) (kept loose : List Entry) (acts : List Act) → Keeps has usable was kept loose old.journal → StandsFor acts version → version.config ≡ was.config
        → HasEntries has old.journal.framing.seed was kept loose file ⊎ HasEntries has seed (replaced_by was.config acts) [] [] file)
        → HasEntries has old.journal.framing.seed at.base ks ls file ⊎ HasEntries has seed (checkpoint_at state) [] [] file
    is_left file seed on =
        subst (λ (c : Configuration). HasEntries has old.journal.framing.seed at.base ks ls file ⊎ HasEntries has seed (replaced_by c state.acts) [] [] file) at.config (on at.base ks ls state.acts at.keeps stands config)

  -- the old file is in use
  pub still_at : (old new : Durable F) → new.bucket ≡ old.bucket → ((base : Base) (kept loose : List Entry) → Keeps has usable base kept loose old.journal → Keeps has usable base kept loose new.journal)
      → (state : State) (ks ls : List Entry) (at : IsAt has usable state ks ls old) → (next : IsAt has usable state ks ls new) × (next.base ≡ at.base)
  still_at old new bucket on = λ state ks ls at. (
    record {
      base = at.base;
      config = at.config;
      represents = subst (Represents state) (sym bucket) at.represents;
      acts = at.acts;
      keeps = on at.base ks ls at.keeps;
    },
    refl,
  )

  -- a checkpoint that was refused leaves the old file in use, where it goes on
  pub goes_on : {T : Type 0} (r : Result T DurableError) (old new : Durable F) → new.bucket ≡ old.bucket
      → OnErr r (is_stopped usable new.journal ≡ false → (base : Base) (kept loose : List Entry) → Keeps has usable base kept loose old.journal → Keeps has usable base kept loose new.journal)
      → OnErr r (is_stopped usable new.journal ≡ false → (state : State) (kept loose : List Entry) (at : IsAt has usable state kept loose old) → (next : IsAt has usable state kept loose new) × (next.base ≡ at.base))
  goes_on {T} r old new bucket = on_err_weaker r (λ on goes. still_at old new bucket (on goes))

  -- it leaves the old file, or the new one
  pub either_left : {T : Type 0} (r : Result T DurableError) (version : Stored) (old : Durable F) → version ≡ old.bucket.version → (file : F) (seed : ℕ)
      → OnErr r ((was : Base) (kept loose : List Entry) (acts : List Act) → Keeps has usable was kept loose old.journal → StandsFor acts version → version.config ≡ was.config
      → HasEntries has old.journal.framing.seed was kept loose file ⊎ HasEntries has seed (replaced_by was.config acts) [] [] file)
      → OnErr r ((state : State) (kept loose : List Entry) (at : IsAt has usable state kept loose old) → HasEntries has old.journal.framing.seed at.base kept loose file ⊎ HasEntries has seed (checkpoint_at state) [] [] file)
  either_left {T} r version old own file seed = on_err_weaker r (λ on state ks ls at. is_left version old own state ks ls at file seed on)

  -- a journal whose file was not replaced has the old one in use, or is stopped
  pub on_or_stopped : (fault : ReplaceFault) (old new : Journal F) → (fault ≡ Unchanged → (base : Base) (kept loose : List Entry) → Keeps has usable base kept loose old → Keeps has usable base kept loose new)
      → (fault ≡ Unknown → is_stopped usable new ≡ true) → is_stopped usable new ≡ false → (base : Base) (kept loose : List Entry) → Keeps has usable base kept loose old → Keeps has usable base kept loose new
  on_or_stopped fault old new unchanged stops goes base kept loose keeps =
      by_fault fault (λ e. unchanged e base kept loose keeps) (λ e. absurd (true≢false (sym (stops e) ∙ goes)))

  -- a version that is that of the bucket whose journal this is
  module _ (was : Base) (kept loose : List Entry) (old : Journal F) (keeps : Keeps has usable was kept loose old) (acts : List Act) (version : Stored) (stands : StandsFor acts version) (same : version.config ≡ was.config) where
    own_version : version.config ≡ old.config.config
    own_version = same ∙ sym keeps.own

    bytes_of : (seed : ℕ) (bytes : List ℕ) → ((as' : List Act) → StandsFor as' version → version.config ≡ old.config.config → bytes ≡ opening seed (replaced_by old.config.config as')) → bytes ≡ opening seed (replaced_by was.config acts)
    bytes_of seed bytes are = subst (λ (c : Configuration). bytes ≡ opening seed (replaced_by c acts)) keeps.own (are acts stands own_version)

    -- how many they are
    pub size_of : (seed named : ℕ) (bytes : List ℕ) → seed ≡ named → ((as' : List Act) → StandsFor as' version → version.config ≡ old.config.config → bytes ≡ opening seed (replaced_by old.config.config as')) → length bytes ≡ opening_size named (replaced_by was.config acts)
    size_of seed named bytes is are = ap length (bytes_of seed bytes are) ∙ ap (λ (n : ℕ). opening_size n (replaced_by was.config acts)) is

    pub by_version : (new : Journal F) (seed : ℕ) (bytes : List ℕ) → ((as' : List Act) → StandsFor as' version → version.config ≡ old.config.config → bytes ≡ opening seed (replaced_by old.config.config as'))
        → ((as' : List Act) → StandsFor as' version → version.config ≡ old.config.config → ArePayloads (base_payloads (replaced_by old.config.config as')))
        → ((before base : Base) (ks ls : List Entry) → Keeps has usable before ks ls old → base.config ≡ before.config → IsLawfulBase base → ArePayloads (base_payloads base) → bytes ≡ opening seed base → Keeps has usable base [] [] new)
        → Keeps has usable (replaced_by was.config acts) [] [] new
    by_version new seed bytes are fit on =
        let lawful = subst (λ (c : Configuration). IsLawful c acts) same stands.lawful in
        let first = subst (λ (c : Configuration). ArePayloads (base_payloads (replaced_by c acts))) keeps.own (fit acts stands own_version) in
        on was (replaced_by was.config acts) kept loose keeps refl lawful first (bytes_of seed bytes are)

    pub left_by_version : (file : F) (seed named : ℕ) (bytes : List ℕ) → seed ≡ named → ((as' : List Act) → StandsFor as' version → version.config ≡ old.config.config → bytes ≡ opening seed (replaced_by old.config.config as'))
        → ((before base : Base) (ks ls : List Entry) → Keeps has usable before ks ls old → bytes ≡ opening seed base → HasEntries has old.framing.seed before ks ls file ⊎ HasEntries has seed base [] [] file)
        → HasEntries has old.framing.seed was kept loose file ⊎ HasEntries has named (replaced_by was.config acts) [] [] file
    left_by_version file seed named bytes is are on =
        subst (λ (n : ℕ). HasEntries has old.framing.seed was kept loose file ⊎ HasEntries has n (replaced_by was.config acts) [] [] file) is (on was (replaced_by was.config acts) kept loose keeps (bytes_of seed bytes are))

    -- what a fault leaves: the old file, or the whole new one
    pub either_by_version : (fault : ReplaceFault) (new : Journal F) (seed named : ℕ) (bytes : List ℕ) → seed ≡ named
        → ((as' : List Act) → StandsFor as' version → version.config ≡ old.config.config → bytes ≡ opening seed (replaced_by old.config.config as')) → new.framing ≡ old.framing
        → (fault ≡ Unchanged → (base : Base) (ks ls : List Entry) → Keeps has usable base ks ls old → Keeps has usable base ks ls new)
        → (fault ≡ Unknown → (before base : Base) (ks ls : List Entry) → Keeps has usable before ks ls old → bytes ≡ opening seed base
        → HasEntries has old.framing.seed before ks ls new.appender.file ⊎ HasEntries has seed base [] [] new.appender.file)
        → HasEntries has old.framing.seed was kept loose new.appender.file ⊎ HasEntries has named (replaced_by was.config acts) [] [] new.appender.file
    either_by_version fault new seed named bytes is are stays unchanged unknown =
        by_fault fault (λ e. inl (same_file was kept loose old new stays (unchanged e was kept loose keeps))) (λ e. left_by_version new.appender.file seed named bytes is are (unknown e))
