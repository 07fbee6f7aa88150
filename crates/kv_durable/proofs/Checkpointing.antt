-- A call, and what a checkpoint behind it makes of the file.
use Rattle.std.proofs.Common.{◌≡◌, ◌⊎◌, ℕ, ◌+◌, Bool, List, [], ◌++◌, length, sym, ap, ◌∙◌, subst, inl, inr, length-append}
use Rattle.kv_frames.specs.Frames.{frames}
use Rattle.kv_model.specs.State.{State}
use Rattle.kv_journal.specs.Entries.{Entry, payloads_of}
use Rattle.kv_journal.specs.Records.{Content}
use Rattle.kv_durable.specs.Bases.{Base}
use Rattle.kv_durable.specs.Durables.{HasEither, IsAt, IsRecorded, IsReplaced, checkpoint_at}
use Rattle.kv_durable.specs.Files.{file_of, frames_behind}
use Rattle.kv_durable.specs.Journals.{HasEntries, Keeps, offset_behind, told_next}
use Rattle.kv_durable.specs.declared.durable.Durable.{Durable}
use Rattle.kv_durable.specs.declared.journal.Journal.{Journal}
use Rattle.kv_durable.proofs.Bytes.{file_append}
use Rattle.kv_durable.proofs.Recording.{all_added}

module _ {F : Type 0} (has : F → List ℕ → List ℕ → Type 0) (usable : F → Bool) where
  -- a journal ends behind all its entries
  ends_at : (base : Base) (kept loose : List Entry) (journal : Journal F) → Keeps has usable base kept loose journal → journal.appender.offset ≡ length (file_of journal.framing.seed base (kept ++ loose))
  ends_at base kept loose journal keeps = keeps.bytes.offset ∙ ap length (sym (file_append journal.framing.seed base kept loose))

  module _ (later : State → State) (told : State → List Content) (old mid : Durable F) (recorded : IsRecorded has usable later told old mid) where
    -- where the journal ends behind the call
    pub offset_is : mid.journal.framing ≡ old.journal.framing → (state : State) (kept loose : List Entry) → IsAt has usable state kept loose old
        → mid.journal.appender.offset ≡ offset_behind old.journal (told state)
    offset_is same state kept loose at =
        let there = recorded state kept loose at in
        let seed = old.journal.framing.seed in
        let all = kept ++ loose in
        let more = told_next old.journal (told state) in
        ends_at there.4.base there.0 there.1 mid.journal there.4.keeps
        ∙ ap (λ (s : ℕ). length (file_of s there.4.base (there.0 ++ there.1))) (ap (λ f. f.seed) same)
        ∙ ap (λ (b : Base). length (file_of seed b (there.0 ++ there.1))) there.5
        ∙ ap (λ (es : List Entry). length (file_of seed at.base es)) (all_added kept loose more there.0 there.1 there.2)
        ∙ ap length (file_append seed at.base all more)
        ∙ length-append (file_of seed at.base all) (frames_behind seed at.base all more)
        ∙ ap (λ (n : ℕ). n + length (frames seed n (payloads_of more))) (sym (ends_at at.base kept loose old.journal at.keeps))

    pub still_recorded : (new : Durable F) → ((state : State) (kept loose : List Entry) (at : IsAt has usable state kept loose mid) → (next : IsAt has usable state kept loose new) × (next.base ≡ at.base)) → IsRecorded has usable later told old new
    still_recorded new on = λ state kept loose at.
        let there = recorded state kept loose at in
        let next = on (later state) there.0 there.1 there.4 in
        (there.0, there.1, there.2, there.3, next.0, next.1 ∙ there.5)

    pub then_replaced : (new : Durable F) → IsReplaced has usable (λ state. state) mid new → IsReplaced has usable later old new
    then_replaced new on = λ state kept loose at.
        let there = recorded state kept loose at in
        on (later state) there.0 there.1 there.4

    pub then_either : (seed : ℕ) (file : F) → mid.journal.framing ≡ old.journal.framing
        → ((state : State) (kept loose : List Entry) (at : IsAt has usable state kept loose mid) → HasEntries has mid.journal.framing.seed at.base kept loose file ⊎ HasEntries has seed (checkpoint_at state) [] [] file)
        → HasEither has usable later told seed old file
    then_either seed file same on = λ state kept loose at.
        let there = recorded state kept loose at in (
          there.0,
          there.1,
          there.2,
          there.3,
          elim (on (later state) there.0 there.1 there.4) [
            | inl h ↦ inl (subst (λ (b : Base). HasEntries has old.journal.framing.seed b there.0 there.1 file) there.5
                (subst (λ (s : ℕ). HasEntries has s there.4.base there.0 there.1 file) (ap (λ f. f.seed) same) h))
            | inr h ↦ inr h
          ],
        )
