-- Lives of a durable bucket that threads share.
use Rattle.std.proofs.Common.{◌≡◌, ◌⊎◌, ◌<◌, ◌^◌, ℕ, Bool, List, [], ◌∷◌, ◌++◌, Result, Ok, Err, map, refl, sym, ap, ◌∙◌, subst, inl, inr, append-nil}
use Rattle.kv_bucket.specs.Batches.{IsKeptBatch}
use Rattle.kv_bucket.specs.Keeping as kept
use Rattle.kv_bucket.specs.Keeping.{IsKeptStep, KeeperState}
use Rattle.kv_durable.specs.Bases.{Base, acts_before}
use Rattle.kv_durable.specs.Durables as durables
use Rattle.kv_durable.specs.Files.{HasForgery, IsBetween, file_of}
use Rattle.kv_durable.specs.Journals.{told_next}
use Rattle.kv_durable.specs.Openings.{IsReopened}
use Rattle.kv_durable.specs.declared.durable.Durable.{Durable}
use Rattle.kv_durable.proofs.Living.{more_acts, new_file_again, old_file_again, second_life}
use Rattle.kv_durable.proofs.Recording.{added_kept, all_added}
use Rattle.kv_durable_live.specs.Lives.{GoesOn, Lives, Shared}
use Rattle.kv_durable_live.specs.Sharing.{IsAt, durable_of}
use Rattle.kv_file.specs.File.{MayLeave}
use Rattle.kv_file.specs.declared.appender.Sync.TheVariants.{Each}
use Rattle.kv_journal.specs.Entries.{AreLawful, Entry, acts_of}
use Rattle.kv_journal.specs.Records.{Content}
use Rattle.kv_model.specs.Acts.{Act, Compact, IsPrefix, Write}
use Rattle.kv_model.specs.Answers.{Answer, Compacted}
use Rattle.kv_model.specs.Batches.{accept_all, after_batch}
use Rattle.kv_model.specs.Requests.{asked}
use Rattle.kv_model.specs.State.{State, after, after_compact, may_compact}
use Rattle.kv_model.specs.declared.batch.BatchRefused.{BatchRefused}
use Rattle.kv_keys.specs.declared.error.KvError.{KvError}
use Rattle.kv_model.specs.declared.call.Call.{Call}
use Rattle.kv_model.specs.declared.call.Call.TheVariants as calls
use Rattle.kv_model.specs.declared.request.Request.{Request}
use Rattle.kv_publish.proofs.Prefixes.{prefix_self, prefix_trans}
use Rattle.kv_single.specs.Held.{Represents}

module _ {F : Type 0} (has : F → List ℕ → List ℕ → Type 0) (usable : F → Bool) where
  pub published_acts : (state : State) (entries loose : List Entry) (shared : Shared F) → (at : IsAt has usable state entries loose shared.kept shared.journal) → shared.kept.published ≡ acts_before at.durable.base ++ acts_of (entries ++ loose)
  published_acts state entries loose shared at = at.published ∙ at.durable.acts

  -- a call that leads from each state to another, and that is added to the file
  added_goes_on : (later : State → State) (told : State → List Content) (old new : Shared F) → ((state : State) → kept.IsAt state old.kept → kept.IsAt (later state) new.kept)
      → durables.IsRecorded has usable later told (durable_of old.kept old.journal) (durable_of new.kept new.journal) → new.journal.appender.sync ≡ old.journal.appender.sync → GoesOn has usable old new
  added_goes_on later told old new step recorded same = λ state entries loose at.
      let there = recorded state entries loose at.durable in
      let more = told_next old.journal (told state) in
      let on = step state (record { represents = at.durable.represents; published = at.published }) in
      let here : IsAt has usable (later state) there.0 there.1 new.kept new.journal = record { durable = there.4; published = on.published } in
      let all : IsPrefix (entries ++ loose) (there.0 ++ there.1) = (more, sym (all_added entries loose more there.0 there.1 there.2)) in
      let before = acts_before at.durable.base in
      let acts = more_acts before (entries ++ loose) (there.0 ++ there.1) all in
      let all_there : acts_before there.4.base ++ acts_of (there.0 ++ there.1) ≡ before ++ acts_of (there.0 ++ there.1) = ap (λ (b : Base). acts_before b ++ acts_of (there.0 ++ there.1)) there.5 in
      let published : IsPrefix old.kept.published new.kept.published =
      subst (λ (xs : List Act). IsPrefix xs new.kept.published) (sym (published_acts state entries loose old at))
      (subst (IsPrefix (before ++ acts_of (entries ++ loose))) (sym (published_acts (later state) there.0 there.1 new here ∙ all_there)) acts) in
      (later state, there.0, there.1, here, inl (there.5, added_kept entries loose more there.0 there.1 there.2, all), published, (λ each none. there.3 each), same)

  pub recorded_goes_on : (call : Call) (answer : Answer) (told : State → List Content) (old new : Shared F) → IsKeptStep old.kept call answer new.kept
      → durables.IsRecorded has usable (λ state. after state call) told (durable_of old.kept old.journal) (durable_of new.kept new.journal) → new.journal.appender.sync ≡ old.journal.appender.sync → GoesOn has usable old new
  recorded_goes_on call answer told old new step recorded same = added_goes_on (λ state. after state call) told old new (λ state at. (step state at).1) recorded same

  pub batch_goes_on : (requests : List Request) (first : ℕ) (old new : Shared F) → IsKeptBatch old.kept requests first new.kept
      → durables.IsRecorded has usable (λ state. after_batch state (accept_all state.config (map asked requests) state.acts)) (λ state. durables.batch_of (accept_all state.config (map asked requests) state.acts)) (durable_of old.kept old.journal) (durable_of new.kept new.journal)
      → new.journal.appender.sync ≡ old.journal.appender.sync → GoesOn has usable old new
  batch_goes_on requests first old new batch recorded same =
      added_goes_on (λ state. after_batch state (accept_all state.config (map asked requests) state.acts)) (λ state. durables.batch_of (accept_all state.config (map asked requests) state.acts)) old new
      (λ state at. let done = batch state at in subst (λ (r : Result (List Write) BatchRefused). kept.IsAt (after_batch state r) new.kept) (sym done.1.0) done.1.1.1) recorded same

  same_published : (old new : Shared F) → new.kept ≡ old.kept → IsPrefix old.kept.published new.kept.published
  same_published old new same = subst (λ (k : KeeperState). IsPrefix old.kept.published k.published) (sym same) (prefix_self old.kept.published)

  pub synced_goes_on : (old new : Shared F) → ((state : State) (entries loose : List Entry) (at : IsAt has usable state entries loose old.kept old.journal) → (next : IsAt has usable state (entries ++ loose) [] new.kept new.journal) × (next.durable.base ≡ at.durable.base))
      → new.kept ≡ old.kept → new.journal.appender.sync ≡ old.journal.appender.sync → GoesOn has usable old new
  synced_goes_on old new on same sync = λ state entries loose at.
      let there = on state entries loose at in
      (state, entries ++ loose, [], there.0, inl (there.1, (loose, refl), ([], refl)), same_published old new same, (λ each none. refl), sync)

  -- all acts stand in a checkpoint behind the call
  replaced_behind : (later : State → State) (old new : Shared F) → ((state : State) → kept.IsAt state old.kept → kept.IsAt (later state) new.kept) → ((state : State) → IsPrefix state.acts (later state).acts)
      → durables.IsReplaced has usable later (durable_of old.kept old.journal) (durable_of new.kept new.journal) → new.journal.appender.sync ≡ old.journal.appender.sync → GoesOn has usable old new
  replaced_behind later old new step grows on sync = λ state entries loose at.
      let there = on state entries loose at.durable in
      let behind = step state (record { represents = at.durable.represents; published = at.published }) in
      let next : IsAt has usable (later state) [] [] new.kept new.journal = record { durable = there.0; published = behind.published } in
      let all : IsPrefix (acts_before at.durable.base ++ acts_of (entries ++ loose)) (acts_before there.0.base) =
      subst (IsPrefix (acts_before at.durable.base ++ acts_of (entries ++ loose))) (sym (ap acts_before there.1)) (subst (λ (xs : List Act). IsPrefix xs (later state).acts) at.durable.acts (grows state)) in
      let published : IsPrefix old.kept.published new.kept.published =
      subst (IsPrefix old.kept.published) (sym behind.published) (subst (λ (xs : List Act). IsPrefix xs (later state).acts) (sym at.published) (grows state)) in
      (later state, [], [], next, inr all, published, (λ each none. refl), sync)

  pub replaced_goes_on : (old new : Shared F) → durables.IsReplaced has usable (λ s. s) (durable_of old.kept old.journal) (durable_of new.kept new.journal)
      → new.kept ≡ old.kept → new.journal.appender.sync ≡ old.journal.appender.sync → GoesOn has usable old new
  replaced_goes_on old new on same sync = replaced_behind (λ s. s) old new (λ state at. subst (kept.IsAt state) (sym same) at) (λ state. prefix_self state.acts) on sync

  compacted_grows : (state : State) (r : Result ℕ KvError) → IsPrefix state.acts (after_compact state r).acts
  compacted_grows state (Ok floor) = (Compact floor ∷ [], refl)
  compacted_grows state (Err e) = prefix_self state.acts

  pub compacted_goes_on : (floor : ℕ) (old new : Shared F) → IsKeptStep old.kept (calls.Compact floor) (Compacted floor) new.kept
      → durables.IsReplaced has usable (λ state. after state (calls.Compact floor)) (durable_of old.kept old.journal) (durable_of new.kept new.journal) → new.journal.appender.sync ≡ old.journal.appender.sync → GoesOn has usable old new
  compacted_goes_on floor old new step on sync = replaced_behind (λ state. after state (calls.Compact floor)) old new (λ state at. (step state at).1) (λ state. compacted_grows state (may_compact floor state)) on sync

  pub not_replaced_goes_on : (old new : Shared F) → ((state : State) (entries loose : List Entry) (at : IsAt has usable state entries loose old.kept old.journal) → (next : IsAt has usable state entries loose new.kept new.journal) × (next.durable.base ≡ at.durable.base))
      → new.kept ≡ old.kept → new.journal.appender.sync ≡ old.journal.appender.sync → GoesOn has usable old new
  not_replaced_goes_on old new on same sync = λ state entries loose at.
      let there = on state entries loose at in
      (state, entries, loose, there.0, inl (there.1, ([], append-nil entries), ([], append-nil (entries ++ loose))), same_published old new same, (λ each none. none), sync)

  -- where each act is synced and nothing was loose
  pub goes_on : (calls : List (Shared F)) (first last : Shared F) (state : State) (entries : List Entry) → first.journal.appender.sync ≡ Each → Lives has usable calls first last → IsAt has usable state entries [] first.kept first.journal
      → (later : State) × (k : List Entry) × IsPrefix first.kept.published last.kept.published × IsAt has usable later k [] last.kept last.journal
  goes_on [] first last state entries each lives at =
      (state, entries, subst (λ (s : Shared F). IsPrefix first.kept.published s.kept.published) (sym lives) (prefix_self first.kept.published), subst (λ (s : Shared F). IsAt has usable state entries [] s.kept s.journal) (sym lives) at)
  goes_on (next ∷ more) first last state entries each lives at =
      let one = lives.0 state entries [] at in
      let none : one.2 ≡ [] = one.6 each refl in
      let here : IsAt has usable one.0 one.1 [] next.kept next.journal = subst (λ (l : List Entry). IsAt has usable one.0 one.1 l next.kept next.journal) none one.3 in
      let rest = goes_on more next last one.0 one.1 (one.7 ∙ each) lives.1 here in
      (rest.0, rest.1, prefix_trans first.kept.published next.kept.published last.kept.published one.5 rest.2, rest.3)

  pub seen_comes_back : (calls : List (Shared F)) (first last : Shared F) (state : State) (entries : List Entry) (seen : List Act) → first.journal.appender.sync ≡ Each → IsAt has usable state entries [] first.kept first.journal
      → IsPrefix seen first.kept.published → Lives has usable calls first last
      → (later : State) × (kept : List Entry) × (at : IsAt has usable later kept [] last.kept last.journal)
      × ((told found : List Entry) (second : Durable F) (dropped : ℕ) (disk more left rest : List ℕ) → AreLawful later.config later.acts told → IsBetween last.journal.framing.seed at.durable.base kept told disk more → MayLeave disk more left
      → IsReopened has usable at.durable.base left found rest second dropped → IsPrefix seen (acts_before at.durable.base ++ acts_of found) ⊎ HasForgery last.journal.framing.seed at.durable.base kept told left)
  seen_comes_back calls first last state entries seen each at saw lives =
      let there = goes_on calls first last state entries each lives at in
      let later = there.0 in
      let kept = there.1 in
      let before = acts_before there.3.durable.base in
      let on_disk : last.kept.published ≡ before ++ acts_of kept = published_acts later kept [] last there.3 ∙ ap (λ (es : List Entry). before ++ acts_of es) (append-nil kept) in
      let own : IsPrefix seen (before ++ acts_of kept) = subst (IsPrefix seen) on_disk (prefix_trans seen first.kept.published last.kept.published saw there.2) in (
        later,
        kept,
        there.3,
        λ told found second dropped disk more left rest lawful between may again.
            elim (second_life has usable later kept [] told found (durable_of last.kept last.journal) second dropped disk more left rest there.3.durable lawful between may again) [
              | inl back ↦ inl (prefix_trans seen (before ++ acts_of kept) (before ++ acts_of found) own back.all_kept)
              | inr forged ↦ inr forged
            ],
      )

  -- ---- a crash in a checkpoint

  pub new_file_back : (shared : Shared F) (state : State) (entries loose found : List Entry) (seed : ℕ) (second : Durable F) (dropped : ℕ) (rest : List ℕ) → IsAt has usable state entries loose shared.kept shared.journal → seed < 2 ^ 64
      → IsReopened has usable (durables.checkpoint_at state) (file_of seed (durables.checkpoint_at state) []) found rest second dropped → Represents (durables.state_of state.config shared.kept.published) second.bucket
  new_file_back shared state entries loose found seed second dropped rest at fits again =
      subst (λ (acts : List Act). Represents (durables.state_of state.config acts) second.bucket) (sym at.published) (new_file_again has usable state seed found second dropped rest fits again).0

  pub old_file_back : (shared : Shared F) (state : State) (entries found : List Entry) (second : Durable F) (dropped : ℕ) (rest : List ℕ) (at : IsAt has usable state entries [] shared.kept shared.journal)
      → IsReopened has usable at.durable.base (file_of shared.journal.framing.seed at.durable.base entries) found rest second dropped → Represents (durables.state_of state.config shared.kept.published) second.bucket
  old_file_back shared state entries found second dropped rest at again =
      subst (λ (acts : List Act). Represents (durables.state_of state.config acts) second.bucket) (sym at.published) (old_file_again has usable state entries found (durable_of shared.kept shared.journal) second dropped rest at.durable again).0
