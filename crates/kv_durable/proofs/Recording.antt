-- What a call that adds to the file makes of a durable bucket.
use Rattle.std.proofs.Common.{◌≡◌, ℕ, ◌+◌, ◌^◌, ◌<◌, ◌≤◌, Bool, true, false, cond, List, [], ◌∷◌, ◌++◌, length, refl, sym, ap, ◌∙◌, subst, inl, inr, arith, append_assoc, append-nil}
use Rattle.std.specs.Prelude.{Result, Err, is_ok, nat_lt, nat_le, not, ◌||◌, ◌&&◌}
use Rattle.std.proofs.lemmas.Bool.{and_right, ltb-false, leb-false, not-false, or_parts}
use Rattle.kv_file.specs.Adding.{Adds}
use Rattle.kv_file.specs.declared.appender.Sync.TheVariants.{Each}
use Rattle.kv_frames.specs.Frames.{ArePayloads, frames}
use Rattle.kv_frames.proofs.Fronts.{length_frame}
use Rattle.kv_model.specs.Acceptance.{LawfulFrom, IsLawful}
use Rattle.kv_model.specs.Acts.{Act, IsPrefix}
use Rattle.kv_model.specs.Configuration.{Configuration}
use Rattle.kv_model.specs.State.{State}
use Rattle.kv_single.specs.Held.{Represents}
use Rattle.kv_journal.specs.Entries.{AreLawful, Entry, acts_of, payloads_of}
use Rattle.kv_journal.specs.Records.{Content, did, did_all}
use Rattle.kv_journal.proofs.Going.{acts_of-append}
use Rattle.kv_durable.specs.Bases.{Base, acts_before}
use Rattle.kv_durable.specs.Durables.{IsHanded, IsRecorded}
use Rattle.kv_durable.specs.Files.{file_of, frames_behind}
use Rattle.kv_durable.specs.Journals.{CanFollow, HasAdded, IsFrameOf, IsLeft, Keeps, is_stopped, loose_ahead, told_next}
use Rattle.kv_durable.specs.declared.durable.Durable.{Durable}
use Rattle.kv_durable.specs.declared.journal.Journal.{Journal}
use Rattle.kv_durable.proofs.Adding.{not_flushed}
use Rattle.kv_durable.proofs.Bytes.{file_append}

-- frames that have no bytes are none
no_frames : (seed at : ℕ) (ps : List (List ℕ)) → length (frames seed at ps) ≡ 0 → ps ≡ []
no_frames seed at [] e = refl
no_frames seed at (p ∷ ps) e = absurd (omega (arith, e, length_frame seed at p (frames seed (at + (8 + length p)) ps)))

none_of : (entries : List Entry) → payloads_of entries ≡ [] → entries ≡ []
none_of [] e = refl
none_of (x ∷ xs) e = absurd cc

-- all that is there, in whatever way it was added
pub all_added : (kept loose more k l : List Entry) → Adds kept loose more k l → k ++ l ≡ (kept ++ loose) ++ more
all_added kept loose more k l adds =
    elim adds [
      | inl both ↦ ap (λ (es : List Entry). es ++ l) both.0 ∙ ap (λ (es : List Entry). kept ++ es) both.1 ∙ sym (append_assoc kept loose more)
      | inr other ↦ elim other [
        | inl alone ↦ ap (λ (es : List Entry). es ++ l) alone.0 ∙ ap (λ (es : List Entry). (kept ++ loose) ++ es) alone.1
        | inr all ↦ ap (λ (es : List Entry). es ++ l) all.0 ∙ ap (λ (es : List Entry). ((kept ++ loose) ++ more) ++ es) all.1 ∙ append-nil ((kept ++ loose) ++ more)
      ]
    ]

-- and nothing of what was on the disk has gone
pub added_kept : (kept loose more k l : List Entry) → Adds kept loose more k l → IsPrefix kept k
added_kept kept loose more k l adds =
    elim adds [
      | inl both ↦ ([], append-nil kept ∙ sym both.0)
      | inr other ↦ elim other [
        | inl alone ↦ (loose, sym alone.0)
        | inr all ↦ (loose ++ more, sym (append_assoc kept loose more) ∙ sym all.0)
      ]
    ]

-- of lawful acts the last ones are lawful behind the first
pub lawful_behind : (config : Configuration) (before xs ys : List Act) → LawfulFrom config before (xs ++ ys) → LawfulFrom config (before ++ xs) ys
lawful_behind config before [] ys h = subst (λ (acts : List Act). LawfulFrom config acts ys) (sym (append-nil before)) h
lawful_behind config before (x ∷ xs) ys h = subst (λ (acts : List Act). LawfulFrom config acts ys) (append_assoc before (x ∷ []) xs) (lawful_behind config (before ++ x ∷ []) xs ys h.1)

least : (n : ℕ) (b : Bool) → nat_lt 1073741824 n ≡ b → cond b 0 n ≤ 1073741824
least n true e = omega arith
least n false e = omega (arith, ltb-false 1073741824 n e)

pub few_loose : {F : Type 0} (journal : Journal F) → loose_ahead journal ≤ 1073741824
few_loose journal = least journal.appender.loose (nat_lt 1073741824 journal.appender.loose) refl

module _ {F : Type 0} (has : F → List ℕ → List ℕ → Type 0) (usable : F → Bool) where
  pub none_loose : (base : Base) (kept loose : List Entry) (journal : Journal F) → Keeps has usable base kept loose journal → journal.appender.loose ≡ 0 → loose ≡ []
  none_loose base kept loose journal keeps none =
      none_of loose (no_frames journal.framing.seed (length (file_of journal.framing.seed base kept)) (payloads_of loose) (sym keeps.bytes.count ∙ none))

  -- what a call told, and the state behind it
  pub record IsTold (later : State → State) (told : State → List Content) (old new : Durable F) (bytes : List ℕ) (state : State) : Type 0 where
    pub are : bytes ≡ frames old.journal.framing.seed old.journal.appender.offset (payloads_of (told_next old.journal (told state)))
    pub lawful : AreLawful state.config state.acts (told_next old.journal (told state))
    pub payloads : ArePayloads (payloads_of (told_next old.journal (told state)))
    pub one : length (told_next old.journal (told state)) ≤ 1
    pub config : (later state).config ≡ state.config
    pub acts : (later state).acts ≡ state.acts ++ acts_of (told_next old.journal (told state))
    pub represents : Represents (later state) new.bucket

  abbrev pub Told : (State → State) → (State → List Content) → (old new : Durable F) → List ℕ → Type 0
  Told later told old new bytes = (state : State) → Represents state old.bucket → IsTold later told old new bytes state

  pub told_one : (later : State → State) (told : State → List Content) (old new : Durable F) (bytes : List ℕ) (state : State) (act : Act) → told state ≡ did act ∷ [] → IsFrameOf old.journal (did act) bytes
      → (later state).config ≡ state.config → (later state).acts ≡ state.acts ++ act ∷ [] → Represents (later state) new.bucket → IsTold later told old new bytes state
  told_one later told old new bytes state act is frame config acts represents =
      let back : did act ∷ [] ≡ told state = sym is in
      let lawful = subst (λ (c : Configuration). IsLawful c (state.acts ++ act ∷ [])) (represents.config ∙ config) (subst (IsLawful new.bucket.version.config) acts represents.version.lawful) in
      let accepted = (lawful_behind state.config [] state.acts (act ∷ []) lawful).0 in
      record {
        are = subst (λ (cs : List Content). bytes ≡ frames old.journal.framing.seed old.journal.appender.offset (payloads_of (told_next old.journal cs))) back frame.are;
        lawful = subst (λ (cs : List Content). AreLawful state.config state.acts (told_next old.journal cs)) back ((omega (arith, few_loose old.journal), accepted), tt);
        payloads = subst (λ (cs : List Content). ArePayloads (payloads_of (told_next old.journal cs))) back (frame.payload, tt);
        one = subst (λ (cs : List Content). length (told_next old.journal cs) ≤ 1) back (omega arith);
        config = config;
        acts = acts ∙ ap (λ (cs : List Content). state.acts ++ acts_of (told_next old.journal cs)) back;
        represents = represents;
      }

  -- several acts at once
  pub told_all : (later : State → State) (told : State → List Content) (old new : Durable F) (bytes : List ℕ) (state : State) (acts : List Act) → told state ≡ did_all acts ∷ [] → IsFrameOf old.journal (did_all acts) bytes
      → (later state).config ≡ state.config → (later state).acts ≡ state.acts ++ acts → Represents (later state) new.bucket → IsTold later told old new bytes state
  told_all later told old new bytes state acts is frame config on represents =
      let back : did_all acts ∷ [] ≡ told state = sym is in
      let lawful = subst (λ (c : Configuration). IsLawful c (state.acts ++ acts)) (represents.config ∙ config) (subst (IsLawful new.bucket.version.config) on represents.version.lawful) in
      record {
        are = subst (λ (cs : List Content). bytes ≡ frames old.journal.framing.seed old.journal.appender.offset (payloads_of (told_next old.journal cs))) back frame.are;
        lawful = subst (λ (cs : List Content). AreLawful state.config state.acts (told_next old.journal cs)) back ((omega (arith, few_loose old.journal), lawful_behind state.config [] state.acts acts lawful), tt);
        payloads = subst (λ (cs : List Content). ArePayloads (payloads_of (told_next old.journal cs))) back (frame.payload, tt);
        one = subst (λ (cs : List Content). length (told_next old.journal cs) ≤ 1) back (omega arith);
        config = config;
        acts = on ∙ ap (λ (xs : List Act). state.acts ++ xs) (sym (append-nil acts)) ∙ ap (λ (cs : List Content). state.acts ++ acts_of (told_next old.journal cs)) back;
        represents = represents;
      }

  pub recorded : (later : State → State) (told : State → List Content) (old new : Durable F) (bytes : List ℕ) → Told later told old new bytes
      → ((base : Base) (kept loose entries : List Entry) → Keeps has usable base kept loose old.journal → CanFollow base (kept ++ loose) entries → length entries ≤ 1
      → bytes ≡ frames old.journal.framing.seed old.journal.appender.offset (payloads_of entries) → HasAdded has usable base kept loose entries new.journal)
      → (old.journal.appender.sync ≡ Each → new.journal.appender.loose ≡ 0) → IsRecorded has usable later told old new
  recorded later told old new bytes tells on none = λ state kept loose at.
      let t = tells state at.represents in
      let before = acts_before at.base in
      let entries = told_next old.journal (told state) in
      let lawful = subst (λ (c : Configuration). AreLawful c (before ++ acts_of (kept ++ loose)) entries) (sym at.config) (subst (λ (acts : List Act). AreLawful state.config acts entries) at.acts t.lawful) in
      let there = on at.base kept loose entries at.keeps (lawful, t.payloads) t.one t.are in (
        there.0,
        there.1,
        there.2,
        (λ each. none_loose at.base there.0 there.1 new.journal there.3 (none each)),
        record {
          base = at.base;
          config = at.config ∙ sym t.config;
          represents = t.represents;
          acts = t.acts ∙ ap (λ (acts : List Act). acts ++ acts_of entries) at.acts ∙ append_assoc before (acts_of (kept ++ loose)) (acts_of entries)
              ∙ ap (λ (acts : List Act). before ++ acts) (sym (acts_of-append (kept ++ loose) entries) ∙ ap acts_of (sym (all_added kept loose entries there.0 there.1 there.2)));
          keeps = there.3;
        },
        refl,
      )

  pub handed : (told : State → List Content) (old new : Durable F) (bytes : List ℕ)
      → ((state : State) → Represents state old.bucket → bytes ≡ frames old.journal.framing.seed old.journal.appender.offset (payloads_of (told_next old.journal (told state))))
      → ((base : Base) (kept loose entries : List Entry) → Keeps has usable base kept loose old.journal
      → bytes ≡ frames old.journal.framing.seed old.journal.appender.offset (payloads_of entries) → IsLeft has old.journal.framing.seed base kept (loose ++ entries) new.journal.appender.file)
      → IsHanded has usable told old new
  handed told old new bytes tells on = λ state kept loose at. on at.base kept loose (told_next old.journal (told state)) at.keeps (tells state at.represents)

  -- a call that touched nothing
  pub untouched : (told : State → List Content) (old new : Durable F) → new ≡ old → IsHanded has usable told old new
  untouched told old new same = λ state kept loose at.
      let entries = told_next old.journal (told state) in
      let there = not_flushed has usable at.base kept loose old.journal old.journal.appender.file at.keeps (λ k l h. h.file) in (
        there.0,
        there.1,
        record {
          on_disk = there.2.on_disk;
          no_more = more_may old.journal.framing.seed at.base kept loose entries (there.0 ++ there.1) there.2.no_more;
        },
        subst (λ (d : Durable F). has d.journal.appender.file there.0 there.1) (sym same) there.3,
      )
    where
      more_may : (seed : ℕ) (base : Base) (kept loose entries : List Entry) (bytes : List ℕ) → IsPrefix bytes (file_of seed base (kept ++ loose)) → IsPrefix bytes (file_of seed base (kept ++ (loose ++ entries)))
      more_may seed base kept loose entries bytes h = (
        h.0 ++ frames_behind seed base (kept ++ loose) entries,
        sym (append_assoc bytes h.0 (frames_behind seed base (kept ++ loose) entries)) ∙ ap (λ (w : List ℕ). w ++ frames_behind seed base (kept ++ loose) entries) h.1
            ∙ sym (file_append seed base (kept ++ loose) entries) ∙ ap (file_of seed base) (append_assoc kept loose entries),
      )

-- what is not stopped has a file that has not failed and has room
pub not_stopped : {F : Type 0} (usable : F → Bool) (journal : Journal F) → is_stopped usable journal ≡ false → (usable journal.appender.file ≡ true) × (journal.appender.offset < 2 ^ 62)
not_stopped usable journal is =
    let parts = or_parts (not (usable journal.appender.file)) (nat_le 4611686018427387904 journal.appender.offset) is in
    (not-false (usable journal.appender.file) parts.0, omega (arith, leb-false 4611686018427387904 journal.appender.offset parts.1))

-- a call of the file has failed
pub stopped_by : {F T E : Type 0} (usable : F → Bool) (was : Bool) (journal : Journal F) (e : E) (result : Result T E) → result ≡ Err e → usable journal.appender.file ≡ (was && is_ok result) → is_stopped usable journal ≡ true
stopped_by usable was journal e result is h =
    let failed : usable journal.appender.file ≡ false = h ∙ and_right was (is_ok result) (ap (λ r. is_ok r) is) in
    ap (λ b. not b || nat_le 4611686018427387904 journal.appender.offset) failed
