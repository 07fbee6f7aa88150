-- The end of a journal, and what is brought onto the disk.
use Rattle.std.proofs.Common.{◌≡◌, ℕ, Bool, List, [], ◌++◌, length, refl, sym, ap, ◌∙◌, subst, arith, append_assoc, append-nil}
use Rattle.kv_frames.specs.Frames.{frames}
use Rattle.kv_model.specs.Acts.{Act, IsPrefix, writes_of}
use Rattle.kv_model.specs.State.{State}
use Rattle.kv_single.specs.Held.{Represents}
use Rattle.kv_journal.specs.Entries.{Entry, acts_of, payloads_of}
use Rattle.kv_journal.specs.Records.{closed}
use Rattle.kv_durable.specs.Durables.{IsAt, IsHanded}
use Rattle.kv_durable.specs.Endings.{IsClosed, end_of}
use Rattle.kv_durable.specs.Bases.{Base, acts_before}
use Rattle.kv_durable.specs.Files.{IsBetween, file_of, frames_behind}
use Rattle.kv_durable.specs.Journals.{AddsFrames, CanFollow, IsFrameOf, IsLeft, Keeps, LeavesFrames, told_next}
use Rattle.kv_durable.specs.declared.durable.Durable.{Durable}
use Rattle.kv_durable.specs.declared.journal.Journal.{Journal}
use Rattle.kv_durable.proofs.Adding.{not_flushed}
use Rattle.kv_durable.proofs.Bytes.{file_append}
use Rattle.kv_durable.proofs.Crashing.{prefix_on}
use Rattle.kv_durable.proofs.Recording.{added_kept, all_added, few_loose}

-- what is between fewer entries is between more
pub wider : (seed : ℕ) (base : Base) (kept k maybe l : List Entry) (disk loose : List ℕ) → IsPrefix kept k → IsPrefix (k ++ l) (kept ++ maybe) → IsBetween seed base k l disk loose → IsBetween seed base kept maybe disk loose
wider seed base kept k maybe l disk loose front all between =
    let more : IsPrefix (file_of seed base kept) (file_of seed base k) =
    (frames_behind seed base kept front.0, sym (file_append seed base kept front.0) ∙ ap (file_of seed base) front.1) in
    let most : IsPrefix (file_of seed base (k ++ l)) (file_of seed base (kept ++ maybe)) =
    (frames_behind seed base (k ++ l) all.0, sym (file_append seed base (k ++ l) all.0) ∙ ap (file_of seed base) all.1) in
    record {
      on_disk = prefix_on (file_of seed base kept) (file_of seed base k) disk more between.on_disk;
      no_more = prefix_on (disk ++ loose) (file_of seed base (k ++ l)) (file_of seed base (kept ++ maybe)) between.no_more most;
    }

module _ {F : Type 0} (has : F → List ℕ → List ℕ → Type 0) (usable : F → Bool) where
  -- the entry of a clean end can be added
  pub end_follows : (base : Base) (kept loose : List Entry) (acts : List Act) (journal : Journal F) (bytes : List ℕ) (last : ℕ) → acts ≡ acts_before base ++ acts_of (kept ++ loose) → IsFrameOf journal (closed last) bytes → last ≡ length (writes_of acts)
      → CanFollow base (kept ++ loose) (told_next journal (end_of acts)) × (bytes ≡ frames journal.framing.seed journal.appender.offset (payloads_of (told_next journal (end_of acts))))
  end_follows base kept loose acts journal bytes last is frame number =
      let own = subst (λ (n : ℕ). IsFrameOf journal (closed n) bytes) number frame in
      ((((omega (arith, few_loose journal), ap (λ (as' : List Act). length (writes_of as')) is), tt), (own.payload, tt)), own.are)

  pub ended : (base : Base) (kept loose : List Entry) (acts : List Act) (old added new : Journal F) (bytes : List ℕ) (last : ℕ) → acts ≡ acts_before base ++ acts_of (kept ++ loose) → IsFrameOf old (closed last) bytes → last ≡ length (writes_of acts)
      → Keeps has usable base kept loose old → AddsFrames has usable bytes old added
      → ((base : Base) (k l : List Entry) → Keeps has usable base k l added → Keeps has usable base (k ++ l) [] new) → new.framing ≡ old.framing → IsClosed has base kept loose acts old new.appender.file
  ended base kept loose acts old added new bytes last is frame number keeps on flush same =
      let entries = told_next old (end_of acts) in
      let can = end_follows base kept loose acts old bytes last is frame number in
      let there = on base kept loose entries keeps can.0 (omega arith) can.1 in
      let last_keeps = flush base there.0 there.1 there.3 in
      let seed : new.framing.seed ≡ old.framing.seed = ap (λ f. f.seed) same in
      subst (λ (n : ℕ). has new.appender.file (file_of n base ((kept ++ loose) ++ entries)) []) seed
      (subst (λ (es : List Entry). has new.appender.file (file_of new.framing.seed base es) []) (all_added kept loose entries there.0 there.1 there.2) last_keeps.bytes.file)

  -- it was not added
  pub not_ended : (base : Base) (kept loose : List Entry) (acts : List Act) (old : Journal F) (file : F) (bytes : List ℕ) (last : ℕ) → acts ≡ acts_before base ++ acts_of (kept ++ loose) → IsFrameOf old (closed last) bytes → last ≡ length (writes_of acts)
      → Keeps has usable base kept loose old → LeavesFrames has usable bytes old file → IsLeft has old.framing.seed base kept (loose ++ told_next old (end_of acts)) file
  not_ended base kept loose acts old file bytes last is frame number keeps on =
      on base kept loose (told_next old (end_of acts)) keeps (end_follows base kept loose acts old bytes last is frame number).1

  -- it was added, and not brought onto the disk
  pub end_loose : (base : Base) (kept loose : List Entry) (acts : List Act) (old added : Journal F) (file : F) (bytes : List ℕ) (last : ℕ) → acts ≡ acts_before base ++ acts_of (kept ++ loose) → IsFrameOf old (closed last) bytes → last ≡ length (writes_of acts)
      → Keeps has usable base kept loose old → AddsFrames has usable bytes old added
      → ((base : Base) (k l : List Entry) → Keeps has usable base k l added → IsLeft has added.framing.seed base k l file) → added.framing ≡ old.framing
      → IsLeft has old.framing.seed base kept (loose ++ told_next old (end_of acts)) file
  end_loose base kept loose acts old added file bytes last is frame number keeps on flush same =
      let entries = told_next old (end_of acts) in
      let can = end_follows base kept loose acts old bytes last is frame number in
      let there = on base kept loose entries keeps can.0 (omega arith) can.1 in
      let left = flush base there.0 there.1 there.3 in
      let seed : added.framing.seed ≡ old.framing.seed = ap (λ f. f.seed) same in
      let all : (there.0 ++ there.1) ++ [] ≡ kept ++ (loose ++ entries) =
      append-nil (there.0 ++ there.1) ∙ all_added kept loose entries there.0 there.1 there.2 ∙ append_assoc kept loose entries in (
        left.0,
        left.1,
        wider old.framing.seed base kept there.0 (loose ++ entries) there.1 left.0 left.1 (added_kept kept loose entries there.0 there.1 there.2) ([], all)
            (subst (λ (n : ℕ). IsBetween n base there.0 there.1 left.0 left.1) seed left.2),
        left.3,
      )

  -- nothing was touched
  pub end_untouched : (base : Base) (kept loose : List Entry) (acts : List Act) (old : Journal F) → Keeps has usable base kept loose old → IsLeft has old.framing.seed base kept (loose ++ told_next old (end_of acts)) old.appender.file
  end_untouched base kept loose acts old keeps =
      let entries = told_next old (end_of acts) in
      let left = not_flushed has usable base kept loose old old.appender.file keeps (λ k l h. h.file) in
      (left.0, left.1, wider old.framing.seed base kept kept (loose ++ entries) loose left.0 left.1 ([], append-nil kept) (entries, append_assoc kept loose entries) left.2, left.3)

  -- a call that tells nothing
  pub flush_handed : (old new : Durable F) → ((base : Base) (kept loose : List Entry) → Keeps has usable base kept loose old.journal → IsLeft has old.journal.framing.seed base kept loose new.journal.appender.file)
      → IsHanded has usable (λ _. []) old new
  flush_handed old new on = λ state kept loose at.
      subst (λ (es : List Entry). IsLeft has old.journal.framing.seed at.base kept es new.journal.appender.file) (sym (append-nil loose)) (on at.base kept loose at.keeps)

  pub all_synced : (old new : Durable F) → new.bucket ≡ old.bucket → ((base : Base) (kept loose : List Entry) → Keeps has usable base kept loose old.journal → Keeps has usable base (kept ++ loose) [] new.journal)
      → (state : State) (kept loose : List Entry) (at : IsAt has usable state kept loose old) → (next : IsAt has usable state (kept ++ loose) [] new) × (next.base ≡ at.base)
  all_synced old new same on state kept loose at = (
    record {
      base = at.base;
      config = at.config;
      represents = subst (Represents state) (sym same) at.represents;
      acts = at.acts ∙ ap (λ (es : List Entry). acts_before at.base ++ acts_of es) (sym (append-nil (kept ++ loose)));
      keeps = on at.base kept loose at.keeps;
    },
    refl,
  )
