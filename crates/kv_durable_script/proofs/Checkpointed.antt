-- A compaction behind which the file was replaced keeps on, and so does one where that has failed.
use Rattle.std.proofs.Common.{◌≡◌, ◌⊎◌, ℕ, Bool, true, false, List, [], ◌∷◌, ◌++◌, Result, Ok, Err, refl, sym, ap, ◌∙◌, subst, inl, inr, append_assoc, append-nil}
use Rattle.kv_file.specs.declared.appender.Sync.TheVariants.{Each}
use Rattle.kv_keys.specs.declared.error.KvError.{KvError}
use Rattle.kv_model.specs.Acts.{Act, Compact, IsPrefix}
use Rattle.kv_model.specs.Answers.{Compacted}
use Rattle.kv_model.specs.Configuration.{Configuration}
use Rattle.kv_model.specs.State.{State, after, answer_compact, may_compact}
use Rattle.kv_model.specs.declared.call.Call.TheVariants as calls
use Rattle.kv_single.specs.Held.{Represents}
use Rattle.kv_single.specs.Stepping.{IsStep}
use Rattle.kv_journal.specs.Records.{Content, did}
use Rattle.kv_journal.specs.Entries.{Entry, acts_of}
use Rattle.kv_journal.proofs.Going.{acts_of-append}
use Rattle.kv_durable.specs.Bases.{Base, acts_before, replaced_by}
use Rattle.kv_durable.specs.Durables.{HasEither, IsRecorded, IsReplaced, checkpoint_at}
use Rattle.kv_durable.specs.Files.{file_of, frames_behind}
use Rattle.kv_durable.specs.Journals.{HasEntries, IsLeft, Keeps, is_stopped, told_next}
use Rattle.kv_durable.specs.declared.durable.Durable.{Durable}
use Rattle.kv_durable.specs.declared.error.DurableError.{DurableError}
use Rattle.kv_durable.specs.declared.shrinking.Shrunk.{Shrunk}
use Rattle.kv_durable.specs.declared.shrinking.Shrunk.TheVariants.{Failed, Left, Replaced}
use Rattle.kv_durable.proofs.Bytes.{file_append}
use Rattle.kv_durable.proofs.Changed.{compacts}
use Rattle.kv_durable.proofs.Living.{acts_on, more_acts}
use Rattle.kv_durable.proofs.Recording.{added_kept, all_added}
use Rattle.kv_durable_script.specs.Keeping.{KeepsMore, KeepsOn}
use Rattle.kv_durable_script.proofs.Called.{recorded_on}

-- the state behind a compaction, and what it tells
abbrev pub compacted : ℕ → State → State
compacted floor state = after state (calls.Compact floor)

abbrev pub compaction : ℕ → State → List Content
compaction floor state = did (Compact floor) ∷ []

abbrev ok_floor : ℕ → Result ℕ KvError
ok_floor floor = Ok floor

abbrev pub made : Shrunk → Result Shrunk DurableError
made shrunk = Ok shrunk

-- a compaction that is answered so was allowed
allowed : (floor : ℕ) (r : Result ℕ KvError) → Compacted floor ≡ answer_compact r → r ≡ ok_floor floor
allowed floor (Ok f) e = let same : floor ≡ f = cc e in ap ok_floor (sym same)
allowed floor (Err x) e = absurd (let no : ⊥ = cc e in no)

module _ {F : Type 0} (has : F → List ℕ → List ℕ → Type 0) (usable : F → Bool) where
  -- a file with just these entries
  left_whole : (seed : ℕ) (base : Base) (k l : List Entry) (file : F) → HasEntries has seed base k l file → IsLeft has seed base k (l ++ []) file
  left_whole seed base k l file there = (
    file_of seed base k,
    frames_behind seed base k l,
    record {
      on_disk = ([], append-nil (file_of seed base k));
      no_more = (
        [],
        append-nil (file_of seed base k ++ frames_behind seed base k l) ∙ sym (file_append seed base k l)
            ∙ ap (λ (es : List Entry). file_of seed base (k ++ es)) (sym (append-nil l)),
      );
    },
    there,
  )

  module _ (floor : ℕ) (old new : Durable F) (step : IsStep old.bucket (calls.Compact floor) (Compacted floor) new.bucket) (sync : new.journal.appender.sync ≡ old.journal.appender.sync) where
    abbrev entries : List Entry
    entries = told_next old.journal (did (Compact floor) ∷ [])

    module _ (base : Base) (state : State) (kept loose : List Entry) (config : base.config ≡ state.config) (represents : Represents state old.bucket) (acts : state.acts ≡ acts_before base ++ acts_of (kept ++ loose)) where
      adds : ((compacted floor state).config ≡ state.config) × ((compacted floor state).acts ≡ state.acts ++ acts_of entries)
      adds = compacts floor state (allowed floor (may_compact floor state) (step state represents).0)

      same_config : base.config ≡ (compacted floor state).config
      same_config = config ∙ sym adds.0

      more : acts_before base ++ acts_of (kept ++ loose) ++ acts_of entries ≡ (compacted floor state).acts
      more = ap (λ (as' : List Act). as' ++ acts_of entries) (sym acts) ∙ sym adds.1

      all_before : IsPrefix (acts_before base ++ acts_of (kept ++ loose)) (compacted floor state).acts
      all_before = (acts_of entries, more)

      -- it goes on from a checkpoint of the state behind the compaction
      on_checkpoint : (Keeps has usable (checkpoint_at (compacted floor state)) [] [] new.journal
          ⊎ ((is_stopped usable new.journal ≡ true) × ((seed : ℕ) × (told : List Entry) × IsLeft has seed (checkpoint_at (compacted floor state)) [] ([] ++ told) new.journal.appender.file)))
          → KeepsMore has usable base old kept loose new
      on_checkpoint file =
          let later = (compacted floor state).acts in
          let first = acts_before base ++ acts_of kept in
          let all = acts_before base ++ acts_of (kept ++ loose) in
          let back : IsPrefix later (later ++ []) = ([], refl) in
          record {
            later = compacted floor state;
            later_base = checkpoint_at (compacted floor state);
            on_disk = [];
            behind = [];
            grown = acts_on first all (later ++ []) (more_acts (acts_before base) kept (kept ++ loose) (loose, refl)) (acts_on all later (later ++ []) all_before back);
            whole = acts_on all later (later ++ []) all_before back;
            based = inr (later, ap (λ (c : Configuration). replaced_by c later) (sym same_config), all_before);
            sync = sync;
            each = λ each none. refl;
            has_kept = record {
              config = refl;
              represents = (step state represents).1;
              acts = sym (append-nil later);
              file = file;
            };
          }

      -- the file was not replaced, or that has failed, and it has what was recorded
      on_entries : (k l : List Entry) (seed : ℕ) → is_stopped usable new.journal ≡ true → k ++ l ≡ (kept ++ loose) ++ entries → IsPrefix kept k → (old.journal.appender.sync ≡ Each → l ≡ [])
          → HasEntries has seed base k l new.journal.appender.file → KeepsMore has usable base old kept loose new
      on_entries k l seed stops is first each file =
          let all : IsPrefix (kept ++ loose) (k ++ l) = (entries, sym is) in
          record {
            later = compacted floor state;
            later_base = base;
            on_disk = k;
            behind = l;
            grown = more_acts (acts_before base) kept k first;
            whole = more_acts (acts_before base) (kept ++ loose) (k ++ l) all;
            based = inl (refl, first, all);
            sync = sync;
            each = λ always none. each always;
            has_kept = record {
              config = same_config;
              represents = (step state represents).1;
              acts = sym more ∙ append_assoc (acts_before base) (acts_of (kept ++ loose)) (acts_of entries)
                  ∙ ap (λ (as' : List Act). acts_before base ++ as') (sym (acts_of-append (kept ++ loose) entries) ∙ ap acts_of (sym is));
              file = inr (stops, (seed, [], left_whole seed base k l new.journal.appender.file file));
            };
          }

    module _ (goes : is_stopped usable old.journal ≡ true → ⊥) where
      replaced_on : IsReplaced has usable (compacted floor) old new → KeepsOn has usable old new
      replaced_on replaced = λ base state kept loose has_kept. elim has_kept.file [
        | inl keeps ↦
            let there = replaced state kept loose (record { base = base; config = has_kept.config; represents = has_kept.represents; acts = has_kept.acts; keeps = keeps }) in
            on_checkpoint base state kept loose has_kept.config has_kept.represents has_kept.acts (inl (subst (λ (b : Base). Keeps has usable b [] [] new.journal) there.1 there.0.keeps))
        | inr left ↦ absurd (goes left.0)
      ]

      -- the replacing has failed, and the file with it
      either_on : (seed : ℕ) → is_stopped usable new.journal ≡ true → HasEither has usable (compacted floor) (compaction floor) seed old new.journal.appender.file → KeepsOn has usable old new
      either_on seed stops either = λ base state kept loose has_kept. elim has_kept.file [
        | inl keeps ↦
            let there = either state kept loose (record { base = base; config = has_kept.config; represents = has_kept.represents; acts = has_kept.acts; keeps = keeps }) in
            elim there.4 [
              | inl stays ↦ on_entries base state kept loose has_kept.config has_kept.represents has_kept.acts there.0 there.1 old.journal.framing.seed stops
                  (all_added kept loose entries there.0 there.1 there.2) (added_kept kept loose entries there.0 there.1 there.2) there.3 stays
              | inr whole ↦ on_checkpoint base state kept loose has_kept.config has_kept.represents has_kept.acts
                  (inr (stops, (seed, [], left_whole seed (checkpoint_at (compacted floor state)) [] [] new.journal.appender.file whole)))
            ]
        | inr left ↦ absurd (goes left.0)
      ]

      -- whatever came of the file behind the compaction
      pub shrunk_on : (seed : ℕ) (shrunk : Shrunk) → (made shrunk ≡ made Left → IsRecorded has usable (compacted floor) (compaction floor) old new)
          → (made shrunk ≡ made Replaced → IsReplaced has usable (compacted floor) old new)
          → ((e : DurableError) → made shrunk ≡ made (Failed e) → is_stopped usable new.journal ≡ false → IsRecorded has usable (compacted floor) (compaction floor) old new)
          → ((e : DurableError) → made shrunk ≡ made (Failed e) → HasEither has usable (compacted floor) (compaction floor) seed old new.journal.appender.file) → KeepsOn has usable old new
      shrunk_on seed Left left replaced goes_on either = recorded_on has usable (compacted floor) (compaction floor) old new (left refl) goes sync
      shrunk_on seed Replaced left replaced goes_on either = replaced_on (replaced refl)
      shrunk_on seed (Failed e) left replaced goes_on either = by (is_stopped usable new.journal) refl
        where
          by : (b : Bool) → is_stopped usable new.journal ≡ b → KeepsOn has usable old new
          by true stops = either_on seed stops (either e refl)
          by false on = recorded_on has usable (compacted floor) (compaction floor) old new (goes_on e refl on) goes sync
